use Rattle.ipnetwork_sets.proofs.Known.{ℕ, ◌≤◌, List, length, drop, map, take, vec_capacity, HasRanges, IsOnTheWay}
use Rattle.ipnetwork_sets.proofs.address_set.AddressSet.from_ranges.Given as goal

abbrev pub invariant-loop-range : goal.invariant-loop-range
invariant-loop-range g l =
    let rs : List (ℕ × ℕ) = map (λ r. (g.N.CidrNetwork.number r.0, g.N.CidrNetwork.number r.1)) l.ranges in
    record {
      ranges : HasRanges g.N.CidrNetwork.WIDTH (map g.N.CidrNetwork.pair l.memory.items) (take l.range-index rs);
      way : IsOnTheWay g.N.CidrNetwork.WIDTH rs (drop l.range-index rs) (length l.memory.items);
      room : vec_capacity l.fn.memory ≤ vec_capacity l.memory;
    }
