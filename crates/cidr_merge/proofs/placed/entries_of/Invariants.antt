use Rattle.cidr_merge.proofs.Known.{◌≡◌, ◌++◌, length, map, flat_map, line_entries, lists_entries, listed_as, lines_left}
use Rattle.cidr_merge.proofs.placed.entries_of.Given as goal

abbrev pub invariant-loop-line : goal.invariant-loop-line
invariant-loop-line l =
    map listed_as l.entries.items ++ flat_map (line_entries l.lists.rules) (lines_left l.lines)
    ≡ lists_entries l.lists.rules (map (λ text. text.items) l.lists.texts.now)

abbrev pub decreases-loop-line : goal.decreases-loop-line
decreases-loop-line l = length (lines_left l.lines)
