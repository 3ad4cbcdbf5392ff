use Rattle.cidr_merge.proofs.Known.{length, following, blocks_left, Printed}
use Rattle.cidr_merge.proofs.exporting.print_following.Given as goal

abbrev pub invariant-loop-block : goal.invariant-loop-block
invariant-loop-block g l =
    Printed (following l.names l.export l.version g.A.Address.family) (blocks_left l.initial.blocks)
    (blocks_left l.blocks) l.initial.output l.output

abbrev pub decreases-loop-block : goal.decreases-loop-block
decreases-loop-block g l = length (blocks_left l.blocks)
