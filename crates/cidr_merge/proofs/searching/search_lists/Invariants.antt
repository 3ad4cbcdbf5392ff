use Rattle.cidr_merge.proofs.Known.{◌≡◌, length, map, flat_map, is_refused, line_matches, lists_matches, numbered_lines, lines_left, sought_in, AnySoFar, ToldSoFar}
use Rattle.cidr_merge.proofs.searching.search_lists.Given as goal

abbrev pub invariant-loop-line : goal.invariant-loop-line
invariant-loop-line g l = record {
  names : l.lines.names.now ≡ l.lists.names.now;
  printed : ToldSoFar (lists_matches l.lists.rules (sought_in l.query) l.lists.names.now
      (map (λ text. text.items) l.lists.texts.now))
      (flat_map (line_matches l.lists.rules (sought_in l.query) l.lists.names.now) (lines_left l.lines))
      l.initial.output l.output l.printed;
  told : AnySoFar (is_refused l.lists.rules) (numbered_lines 0 (map (λ text. text.items) l.lists.texts.now))
      (lines_left l.lines) l.told;
}

abbrev pub decreases-loop-line : goal.decreases-loop-line
decreases-loop-line g l = length (lines_left l.lines)
