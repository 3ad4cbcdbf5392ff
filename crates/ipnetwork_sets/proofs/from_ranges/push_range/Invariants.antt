use Rattle.ipnetwork_sets.proofs.Known.{◌≡◌, ◌≤◌, ◌++◌, length, map, take, vec_capacity, IsPushed}
use Rattle.ipnetwork_sets.proofs.from_ranges.push_range.Given as goal

abbrev pub invariant-loop-block : goal.invariant-loop-block
invariant-loop-block g l = record {
  together : map g.N.CidrNetwork.pair l.networks.items ++ l.blocks ≡ map g.N.CidrNetwork.pair l.initial.networks.items
      ++ l.initial.blocks;
  front : take (length l.initial.networks.items) l.networks.items ≡ l.initial.networks.items;
  part : IsPushed (map g.N.CidrNetwork.pair l.initial.networks.items) (map g.N.CidrNetwork.pair l.networks.items)
      l.initial.blocks l.blocks;
  room : vec_capacity l.initial.networks ≤ vec_capacity l.networks;
}

abbrev pub decreases-loop-block : goal.decreases-loop-block
decreases-loop-block g l = length l.blocks
