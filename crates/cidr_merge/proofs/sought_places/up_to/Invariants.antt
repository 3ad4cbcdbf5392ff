use Rattle.cidr_merge.proofs.Known.{◌≤◌, ◌-◌, length}
use Rattle.cidr_merge.proofs.sought_places.up_to.Given as goal

abbrev pub invariant-loop-count : goal.invariant-loop-count
invariant-loop-count l = l.count ≤ length l.places

abbrev pub decreases-loop-count : goal.decreases-loop-count
decreases-loop-count l = length l.places - l.count
