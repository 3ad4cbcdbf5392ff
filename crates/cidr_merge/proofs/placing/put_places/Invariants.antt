use Rattle.cidr_merge.proofs.Known.{length, Printed}
use Rattle.cidr_merge.specs.Placements.{place_line}
use Rattle.cidr_merge.proofs.placing.put_places.Given as goal

abbrev pub invariant-loop-place : goal.invariant-loop-place
invariant-loop-place g l = Printed (place_line l.names g.A.Address.family) l.initial.left l.left l.initial.output l.output

abbrev pub decreases-loop-place : goal.decreases-loop-place
decreases-loop-place g l = length l.left
