use Rattle.ipnetwork_index.proofs.Known.{◌≡◌, map, take}
use Rattle.ipnetwork_index.proofs.halves.highs_of.Given as goal

abbrev pub invariant-loop-last : goal.invariant-loop-last
invariant-loop-last g l = map g.N.High.Key.value l.highs.items ≡ map g.N.IndexedNetwork.high
    (map g.N.Number.Key.value (take l.last-index l.lasts))
