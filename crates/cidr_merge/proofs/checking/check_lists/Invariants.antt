use Rattle.cidr_merge.proofs.Known.{◌≡◌, length, map, flat_map, line_findings, lists_findings, lines_left, ToldSoFar}
use Rattle.cidr_merge.proofs.checking.check_lists.Given as goal

abbrev pub invariant-loop-line : goal.invariant-loop-line
invariant-loop-line g l = record {
  names : l.lines.names.now ≡ l.lists.names.now;
  told : ToldSoFar (lists_findings l.lists.rules l.strictly l.lists.names.now
      (map (λ text. text.items) l.lists.texts.now))
      (flat_map (line_findings l.lists.rules l.strictly l.lists.names.now) (lines_left l.lines))
      l.initial.output l.output l.found;
}

abbrev pub decreases-loop-line : goal.decreases-loop-line
decreases-loop-line g l = length (lines_left l.lines)
