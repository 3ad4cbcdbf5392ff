use Rattle.cidr_filter.proofs.Known.{◌≡◌, device_of, left, PrintsSoFar, FiltersLine, is_full}
use Rattle.cidr_filter.proofs.log.filter_log.Given as goal

abbrev pub invariant-lines : goal.invariant-lines
invariant-lines g l = record {
  sofar : PrintsSoFar (is_full l.filter) (FiltersLine l.filter) l.initial.tally l.log
      (g.R.Read.remaining (device_of l.initial.reader)) (g.R.Read.remaining (device_of l.reader))
      l.initial.output l.output l.tally;
  hurries : l.log.hurries ≡ l.refuses_long_lines;
}

abbrev pub decreases-lines : goal.decreases-lines
decreases-lines g l = left l.log
