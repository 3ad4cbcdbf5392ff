use Rattle.ipnetwork_index.proofs.Known.{ℕ, ◌<◌, map, get_or, IsLastOf}
use Rattle.ipnetwork_index.proofs.halves.all_end.Given as goal

abbrev pub invariant-loop-last : goal.invariant-loop-last
invariant-loop-last g l =
    (k : ℕ) → k < l.last-index
    → IsLastOf g.N.IndexedNetwork.high (get_or (map g.N.Number.Key.value l.lasts) k 0)
