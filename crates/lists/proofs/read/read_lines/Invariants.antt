use Rattle.lists.proofs.Known.{◌≡◌, waits, HasNoFeed, device_of, has_failed, TakesSoFar}
use Rattle.lists.proofs.read.read_lines.Given as goal

abbrev pub invariant-reads : goal.invariant-reads
invariant-reads g l = record {
  taken : TakesSoFar (g.R.Read.remaining (device_of l.initial.reader)) (g.R.Read.remaining (device_of l.reader)) l.lines
      l.initial.lists l.lists l.room;
  idle : HasNoFeed (waits l.lines);
  limit : l.lines.limit ≡ 1024;
  failed : has_failed l.reader ≡ has_failed l.initial.reader;
}

abbrev pub decreases-reads : goal.decreases-reads
decreases-reads g l = l.room
