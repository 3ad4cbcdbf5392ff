use Rattle.program.proofs.Known.{◌≡◌, ◌≤◌, ◌-◌, ℕ, List, ◌++◌, drop, length, escaped_behind, Reports}
use Rattle.program.proofs.escapes.tell_all.Given as goal

-- what was reported, and what is reported of the bytes that are left, is all
abbrev pub invariant-loop-at : goal.invariant-loop-at
invariant-loop-at g l = (l.at ≤ length l.bytes)
    × ((told : List ℕ) × Reports l.initial.output l.output told
    × (told ++ escaped_behind l.keeps_tabs l.kept (drop l.at l.bytes) ≡ escaped_behind l.keeps_tabs 0 l.bytes))

abbrev pub decreases-loop-at : goal.decreases-loop-at
decreases-loop-at g l = length l.bytes - l.at
