use Rattle.cidr_merge.proofs.Known.{length, network_line, Printed}
use Rattle.cidr_merge.proofs.cutting.print_block.Given as goal

abbrev pub invariant-loop-piece : goal.invariant-loop-piece
invariant-loop-piece g l =
    Printed (network_line l.names g.A.Address.family) l.initial.pieces l.pieces l.initial.output l.output

abbrev pub decreases-loop-piece : goal.decreases-loop-piece
decreases-loop-piece g l = length l.pieces
