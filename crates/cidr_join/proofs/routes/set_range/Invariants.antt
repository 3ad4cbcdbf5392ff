use Rattle.cidr_join.proofs.Known.{length, Set}
use Rattle.cidr_join.proofs.routes.set_range.Given as goal

abbrev pub invariant-loop-block : goal.invariant-loop-block
invariant-loop-block g l = Set g.N.CidrNetwork.WIDTH l.initial.table l.value l.initial.blocks l.blocks l.table

abbrev pub decreases-loop-block : goal.decreases-loop-block
decreases-loop-block g l = length l.blocks
