use Rattle.ipnetwork_index.proofs.Known.{◌-◌, length, map, HasComeTo}
use Rattle.ipnetwork_index.proofs.search.reached.Given as goal

abbrev pub invariant-reaching : goal.invariant-reaching
invariant-reaching g l = HasComeTo (map g.K.Key.value l.keys) (g.K.Key.value l.key) l.at

abbrev pub decreases-reaching : goal.decreases-reaching
decreases-reaching g l = length l.keys - l.at
