use Rattle.ipnetwork_index.proofs.Known.{◌≡◌, map, take, All, IsCidrBlock, block_of}
use Rattle.ipnetwork_index.proofs.listing.blocks_of.Given as goal

abbrev pub invariant-loop-network : goal.invariant-loop-network
invariant-loop-network g l = record {
  made : map g.N.CidrNetwork.pair l.blocks.items ≡ map (block_of g.N.CidrNetwork.WIDTH)
      (map g.N.CidrNetwork.pair (take l.network-index l.networks));
  blocks : All (IsCidrBlock g.N.CidrNetwork.WIDTH) (map g.N.CidrNetwork.pair l.blocks.items);
}
