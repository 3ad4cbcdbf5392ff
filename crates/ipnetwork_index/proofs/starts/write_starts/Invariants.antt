use Rattle.ipnetwork_index.proofs.Known.{map, AreStartsSoFar}
use Rattle.ipnetwork_index.proofs.starts.write_starts.Given as goal

abbrev pub invariant-loop-part : goal.invariant-loop-part
invariant-loop-part g l = AreStartsSoFar (map g.K.Key.value l.keys) l.starts
    (g.K.Key.value l.base) l.shift l.part l.at
