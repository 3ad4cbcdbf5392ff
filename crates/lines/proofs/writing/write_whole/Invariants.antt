use Rattle.lines.proofs.Known.{◌≡◌, ◌≤◌, ◌-◌, length, take, Appends, inner_of, failed_of}
use Rattle.lines.proofs.writing.write_whole.Given as goal

abbrev pub invariant-loop-at : goal.invariant-loop-at
invariant-loop-at g l = record {
  within : l.at ≤ length l.bytes;
  sofar : Appends (g.W.Write.contents (inner_of l.initial.writer)) (g.W.Write.contents (inner_of l.writer))
      (take l.at l.bytes);
  watched : failed_of l.writer ≡ failed_of l.initial.writer;
}

abbrev pub decreases-loop-at : goal.decreases-loop-at
decreases-loop-at g l = length l.bytes - l.at
