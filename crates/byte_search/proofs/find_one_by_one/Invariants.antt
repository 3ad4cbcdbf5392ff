use Rattle.byte_search.proofs.Known.{IsAbsent}
use Rattle.byte_search.proofs.find_one_by_one.Given as goal

abbrev pub invariant-loop-at : goal.invariant-loop-at
invariant-loop-at l = IsAbsent l.byte l.text l.from l.at
