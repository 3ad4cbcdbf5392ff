use Rattle.ipnetwork_blocks.proofs.Known.{◌∷◌, take, map, Contains, Network, IsSpanning}
use Rattle.ipnetwork_blocks.proofs.spanning_block.spanning.Given as goal

abbrev pub invariant-loop-network : goal.invariant-loop-network
invariant-loop-network g l =
    (n : Network) × Contains (map g.N.CidrNetwork.pair l.networks) n
    × IsSpanning g.N.CidrNetwork.WIDTH (n ∷ take l.network-index (map g.N.CidrNetwork.pair l.networks))
    (g.N.CidrNetwork.pair l.around)
