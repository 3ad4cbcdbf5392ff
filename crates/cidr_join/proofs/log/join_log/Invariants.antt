use Rattle.cidr_join.proofs.Known.{◌≡◌, device_of, PrintsSoFar, nothing, left, GivesLine, never, shown_in}
use Rattle.cidr_join.proofs.log.join_log.Given as goal

abbrev pub invariant-lines : goal.invariant-lines
invariant-lines g l = record {
  sofar : PrintsSoFar never (GivesLine shown_in l.join) nothing l.log (g.R.Read.remaining (device_of l.initial.reader))
      (g.R.Read.remaining (device_of l.reader)) l.initial.output l.output l.seen;
  hurries : l.log.hurries ≡ l.stops;
}

abbrev pub decreases-lines : goal.decreases-lines
decreases-lines g l = left l.log
