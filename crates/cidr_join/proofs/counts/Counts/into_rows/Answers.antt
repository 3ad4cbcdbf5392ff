use Rattle.cidr_join.proofs.Known.{rows_counted}
use Rattle.cidr_join.proofs.counts.Counts.into_rows.Goals as goal

pub returns : goal.returns
returns c =
    rows_counted c.args.founds.now _ c.args.self c.count_each.new.tally c.into_rows.result
    (rw c.as_slice.ensures.value at c.in_ok-count_each.ensures) c.into_rows.ensures
