use Rattle.ipnetwork_index.proofs.Known.{◌-◌, IsNarrowedTo}
use Rattle.ipnetwork_index.proofs.low_halves.first_from.Given as goal

abbrev pub invariant-loop-at : goal.invariant-loop-at
invariant-loop-at l = IsNarrowedTo l.lows l.from l.end l.low l.at l.to

abbrev pub decreases-loop-at : goal.decreases-loop-at
decreases-loop-at l = l.to - l.at
