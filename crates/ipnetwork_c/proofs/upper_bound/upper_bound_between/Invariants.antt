use Rattle.ipnetwork_c.proofs.Known.{◌+◌, ◌≤◌, length, map, IsBetween}
use Rattle.ipnetwork_c.proofs.upper_bound.upper_bound_between.Given as goal

abbrev pub invariant-loop-count : goal.invariant-loop-count
invariant-loop-count g l = record {
  within : l.from + l.count ≤ length l.list;
  between : IsBetween (map g.H.HoldsNetwork.held l.list) (g.H.Numbered.value l.number) l.from (l.from + l.count);
}

abbrev pub decreases-loop-count : goal.decreases-loop-count
decreases-loop-count g l = l.count
