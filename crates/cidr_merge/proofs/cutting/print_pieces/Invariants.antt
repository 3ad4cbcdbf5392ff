use Rattle.cidr_merge.proofs.Known.{length, pieces_text, Printed}
use Rattle.cidr_merge.proofs.cutting.print_pieces.Given as goal

abbrev pub invariant-loop-block : goal.invariant-loop-block
invariant-loop-block g l =
    Printed (pieces_text l.names g.A.Address.family l.length) l.fn.set l.blocks l.initial.output l.output

abbrev pub decreases-loop-block : goal.decreases-loop-block
decreases-loop-block g l = length l.blocks
