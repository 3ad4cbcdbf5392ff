use Rattle.cidr_join.proofs.Known.{◌≡◌, device_of, left, CountsSoFar}
use Rattle.cidr_join.proofs.tally_log.tally_log.Given as goal

abbrev pub invariant-lines : goal.invariant-lines
invariant-lines g l = record {
  sofar : CountsSoFar l.numbered.founds.items l.join l.log (g.R.Read.remaining (device_of l.initial.reader))
      (g.R.Read.remaining (device_of l.reader)) l.initial.counts l.counts l.seen;
  hurries : l.log.hurries ≡ l.stops;
}

abbrev pub decreases-lines : goal.decreases-lines
decreases-lines g l = left l.log
