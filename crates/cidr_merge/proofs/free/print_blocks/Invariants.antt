use Rattle.cidr_merge.proofs.Known.{length, network_line, Printed}
use Rattle.cidr_merge.proofs.free.print_blocks.Given as goal

abbrev pub invariant-loop-block : goal.invariant-loop-block
invariant-loop-block g l =
    Printed (network_line l.names g.A.Address.family) l.initial.blocks l.blocks l.initial.output l.output

abbrev pub decreases-loop-block : goal.decreases-loop-block
decreases-loop-block g l = length l.blocks
