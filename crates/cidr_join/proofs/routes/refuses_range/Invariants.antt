use Rattle.cidr_join.proofs.Known.{◌≡◌, length, one_has}
use Rattle.cidr_join.proofs.routes.refuses_range.Given as goal

abbrev pub invariant-loop-block : goal.invariant-loop-block
invariant-loop-block g l = one_has g.N.CidrNetwork.WIDTH l.table l.initial.blocks ≡ one_has g.N.CidrNetwork.WIDTH
    l.table l.blocks

abbrev pub decreases-loop-block : goal.decreases-loop-block
decreases-loop-block g l = length l.blocks
