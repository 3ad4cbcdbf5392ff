use Rattle.cidr_join.proofs.Known.{none_counted}
use Rattle.cidr_join.proofs.counts.Counts.new.Goals as goal

pub returns : goal.returns
returns c founds same = none_counted founds _ c.args.count c.new-tally.ensures
    (c.in_ok-numbers.ensures.items_if_clones_equal (λ y h. h)) same
