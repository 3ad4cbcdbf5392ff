use Rattle.lists.proofs.Known.{map, at_list, TakesLines}
use Rattle.lists.proofs.read.take_text.Given as goal

abbrev pub invariant-loop-line : goal.invariant-loop-line
invariant-loop-line l = TakesLines (at_list l.fn.lists l.list) (map (λ line. line.now) l.yielded) l.lists
