use Rattle.cidr.proofs.Known.{◌≡◌, ◌+◌, ◌*◌, ◌≤◌, length, if◌then◌else◌, work, device_of, has_failed, standing, begun, RunSoFar, ANSWER_MAX}
use Rattle.cidr.proofs.run.answer_all.Given as goal

abbrev pub invariant-lines : goal.invariant-lines
invariant-lines g l = record {
  sofar : RunSoFar l.limit l.room l.lines (g.R.Read.remaining (device_of l.initial.reader))
      (g.R.Read.remaining (device_of l.reader))
      (begun (g.W.Write.contents (device_of l.initial.writer)))
      (standing (g.W.Write.contents (device_of l.writer)) l.answering);
  max : l.lines.limit ≡ 1024;
  size : length l.lines.bytes ≡ 65536;
  fits : ANSWER_MAX ≤ l.answering.waiting.capacity;
  reader_works : has_failed l.reader ≡ has_failed l.initial.reader;
  writer_works : has_failed l.writer ≡ has_failed l.initial.writer;
}

-- a measure that decreases: first the bytes that may still be read and whether the input has ended, then the lines left
-- in the buffer
abbrev pub decreases-lines : goal.decreases-lines
decreases-lines g l = (l.room + (if l.lines.ended then 0 else 1)) * 65538 + work l.lines
