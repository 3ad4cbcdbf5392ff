use Rattle.cidr_merge.proofs.Known.{length, map, numbered_lines, lines_left, line_is_other, AnySoFar}
use Rattle.cidr_merge.proofs.sought.tell_others.Given as goal

abbrev pub invariant-loop-line : goal.invariant-loop-line
invariant-loop-line g l =
    AnySoFar line_is_other (numbered_lines 0 (map (λ text. text.items) l.lists.texts.now)) (lines_left l.lines) l.told

abbrev pub decreases-loop-line : goal.decreases-loop-line
decreases-loop-line g l = length (lines_left l.lines)
