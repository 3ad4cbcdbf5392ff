use Rattle.ipnetwork_index.proofs.Known.{◌+◌, map, IsBetween}
use Rattle.ipnetwork_index.proofs.search.narrowed.Given as goal

abbrev pub invariant-narrowing : goal.invariant-narrowing
invariant-narrowing g l =
    IsBetween (map g.K.Key.value l.keys) (g.K.Key.value l.key) l.at (l.at + l.left)

abbrev pub decreases-narrowing : goal.decreases-narrowing
decreases-narrowing g l = l.left
