use Rattle.allotting.proofs.Known.{◌-◌, ◌≤◌, length}
use Rattle.allotting.proofs.placed.empty_places.Given as goal

abbrev pub invariant-loop-places : goal.invariant-loop-places
invariant-loop-places g l = length l.places.items ≤ l.count

abbrev pub decreases-loop-places : goal.decreases-loop-places
decreases-loop-places g l = l.count - length l.places.items
