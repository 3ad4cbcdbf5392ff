use Rattle.lists.proofs.Known.{◌≡◌, ◌+◌, length, Consumes, device_of}
use Rattle.lists.proofs.bytes.read_all.Given as goal

abbrev pub invariant-reads : goal.invariant-reads
invariant-reads g l = record {
  reads : Consumes (g.R.Read.remaining (device_of l.initial.reader)) (g.R.Read.remaining (device_of l.reader))
      l.bytes.items;
  counted : length l.bytes.items + l.room ≡ l.max;
}

abbrev pub decreases-reads : goal.decreases-reads
decreases-reads g l = l.room
