use Rattle.allotting.proofs.Known.{◌≡◌, ◌++◌, ◌^◌, All, List, Network, Subnet, at_hand, count_number, length, min, total}
use Rattle.allotting.proofs.usage.count_within.Given as goal

abbrev pub invariant-loop-left : goal.invariant-loop-left
invariant-loop-left g l =
    (taken : List Network)
    × (at_hand g.N.CidrNetwork.pair l.initial.left l.initial.pieces ≡ taken ++ at_hand g.N.CidrNetwork.pair l.left l.pieces)
    × All (λ piece. Subnet g.N.CidrNetwork.WIDTH piece (g.N.CidrNetwork.pair l.block)) taken
    × (count_number l.count ≡ min (total g.N.CidrNetwork.WIDTH taken) (2 ^ 128))

abbrev pub decreases-loop-left : goal.decreases-loop-left
decreases-loop-left g l = length (at_hand g.N.CidrNetwork.pair l.left l.pieces)
