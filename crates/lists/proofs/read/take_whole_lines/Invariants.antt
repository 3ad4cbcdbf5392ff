use Rattle.lists.proofs.Known.{◌≡◌, ℕ, List, true, IsPending, work, NoneYet, TakesSome}
use Rattle.lists.proofs.read.take_whole_lines.Given as goal

abbrev pub invariant-lines : goal.invariant-lines
invariant-lines l = record {
  taken : (pending : List ℕ) → IsPending l.initial.lines pending → TakesSome l.lines l.initial.lists l.lists pending;
  none : l.initial.lines.ended ≡ true → (pending : List ℕ) → IsPending l.initial.lines pending
      → NoneYet l.has_none l.lines pending;
  limit : l.lines.limit ≡ l.initial.lines.limit;
  ended : l.lines.ended ≡ l.initial.lines.ended;
}

abbrev pub decreases-lines : goal.decreases-lines
decreases-lines l = work l.lines
