use Rattle.ipnetwork_index.proofs.Known.{AreFirstsSoFar}
use Rattle.ipnetwork_index.proofs.low_halves.write_starts.Given as goal

abbrev pub invariant-loop-part : goal.invariant-loop-part
invariant-loop-part l = AreFirstsSoFar l.numbers l.starts l.shift l.part l.at
