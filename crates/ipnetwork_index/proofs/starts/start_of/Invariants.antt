use Rattle.ipnetwork_index.proofs.Known.{◌-◌, length, map, IsStart}
use Rattle.ipnetwork_index.proofs.starts.start_of.Given as goal

abbrev pub invariant-loop-at : goal.invariant-loop-at
invariant-loop-at g l = IsStart (map g.K.Key.value l.keys) (g.K.Key.value l.base) l.shift l.part
    l.at

abbrev pub decreases-loop-at : goal.decreases-loop-at
decreases-loop-at g l = length l.keys - l.at
