use Rattle.cidr_filter.proofs.Known.{◌∙◌, ◌++◌, ap, append-nil, feed_behind, copying_stops}
use Rattle.cidr_filter.proofs.log.filter_line.Goals as goal

pub returns-in-Some-clause-err : goal.returns-in-Some-clause-err
returns-in-Some-clause-err g c =
    let whole = c.args.whole.now in
    copying_stops c.args.filter.now c.args.line.now (whole ++ feed_behind c.args.end) c.args.output.now c.args.tally.now
    c.pass_line.new.output c.pass_line.result whole c.in-Some.is_selected (c.requires.copied c.if-is_copied.true)
    (ap (λ t. whole ++ t) (c.has_feed.ensures c.if-has_feed.true) ∙ append-nil whole) c.in-Some.ensures
    c.pass_line.ensures.err c.pass_line.ensures.failed c.pass_line.ensures.fault
