use Rattle.cidr_merge.proofs.Known.{◌≤◌, EndBy}
use Rattle.cidr_merge.proofs.sought_places.outer_of.Given as goal

abbrev pub invariant-loop-outer : goal.invariant-loop-outer
invariant-loop-outer l = record { up_to : l.outer ≤ l.at; passed : EndBy l.places l.outer l.at l.last }

abbrev pub decreases-loop-outer : goal.decreases-loop-outer
decreases-loop-outer l = l.outer
