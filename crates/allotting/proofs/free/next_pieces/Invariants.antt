use Rattle.allotting.proofs.Known.{◌≡◌, length, pieces_in}
use Rattle.allotting.proofs.free.next_pieces.Given as goal

abbrev pub invariant-loop-block : goal.invariant-loop-block
invariant-loop-block g l =
    pieces_in g.N.CidrNetwork.WIDTH l.prefix l.initial.blocks ≡ pieces_in g.N.CidrNetwork.WIDTH l.prefix l.blocks

abbrev pub decreases-loop-block : goal.decreases-loop-block
decreases-loop-block g l = length l.blocks
