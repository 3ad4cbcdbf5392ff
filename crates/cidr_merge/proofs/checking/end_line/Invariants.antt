use Rattle.cidr_merge.proofs.Known.{◌+◌, ◌≤◌, length, LinesSoFar}
use Rattle.cidr_merge.proofs.checking.end_line.Given as goal

abbrev pub invariant-loop-line : goal.invariant-loop-line
invariant-loop-line l = record {
  fits : l.number + length l.lines.text.now ≤ length l.text;
  so_far : LinesSoFar l.text l.lines.text.now l.number l.last;
}

abbrev pub decreases-loop-line : goal.decreases-loop-line
decreases-loop-line l = length l.lines.text.now
