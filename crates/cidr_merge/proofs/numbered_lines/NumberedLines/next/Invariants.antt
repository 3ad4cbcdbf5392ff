use Rattle.cidr_merge.proofs.Known.{◌≡◌, length, lines_left}
use Rattle.cidr_merge.proofs.numbered_lines.NumberedLines.next.Given as goal

abbrev pub invariant-lists : goal.invariant-lists
invariant-lists l = record {
  left : lines_left l.self ≡ lines_left l.initial.self;
  names : l.self.names.now ≡ l.initial.self.names.now;
}

abbrev pub decreases-lists : goal.decreases-lists
decreases-lists l = length l.self.texts.now
