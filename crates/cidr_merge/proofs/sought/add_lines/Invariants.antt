use Rattle.cidr_merge.proofs.Known.{◌≡◌, ◌++◌, length, map, flat_map, lines_left, sought_as, line_sought, lists_sought}
use Rattle.cidr_merge.proofs.sought.add_lines.Given as goal

abbrev pub invariant-loop-line : goal.invariant-loop-line
invariant-loop-line l =
    map sought_as l.sought.items ++ flat_map line_sought (lines_left l.lines)
    ≡ map sought_as l.initial.sought.items ++ lists_sought (map (λ text. text.items) l.lists.texts.now)

abbrev pub decreases-loop-line : goal.decreases-loop-line
decreases-loop-line l = length (lines_left l.lines)
