use Rattle.cidr_join.proofs.Known.{arith, take_all, named_by, texts_none, texts_both, flat_more, repeated_more}
use Rattle.cidr_join.proofs.counts.count_each.Goals as goal

pub loop-place-init : goal.loop-place-init
loop-place-init c = texts_none c.args.tally.now.counts

pub loop-place-preserved : goal.loop-place-preserved
loop-place-preserved c =
    let founds = c.args.founds.now in
    let place = c.loop-place.place in
    rw (
      flat_more (named_by c.args.zeros) founds place c.index-founds-place.result (omega arith)
          c.index-founds-place.is,
      repeated_more founds c.args.numbers.now place c.index-founds-place.result (omega arith)
          (omega arith) c.index-founds-place.is,
    )
    (texts_both c.args.tally.now.counts c.loop-place.tally.counts c.count_found.new.tally.counts _ _ _ _
    c.loop-place.invariant c.in_ok-count_found.ensures)

pub returns : goal.returns
returns c same =
    let place = c.loop-place.place in
    rw (take_all place c.args.founds.now (omega (arith, same)), take_all place c.args.numbers.now (omega (arith, same)))
    at c.loop-place.invariant
