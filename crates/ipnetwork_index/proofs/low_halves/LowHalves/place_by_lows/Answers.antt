use Rattle.ipnetwork_index.proofs.Known.{◌+◌, arith, starts_read, ordered, rising, found_in_eight, found_behind}
use Rattle.ipnetwork_index.proofs.low_halves.LowHalves.place_by_lows.Goals as goal

pub overflow_sub-end : goal.overflow_sub-end
overflow_sub-end c =
    let read = starts_read _ _ _ _ _ _ c.requires.of c.args.number c.ranges.number.fits
    c.index.result.now c.index-2.result.now c.index.ensures c.index-2.ensures in
    let up = ordered _ _ _ _ _ _ c.requires.of c.args.number c.ranges.number.fits in
    omega (arith, read.0, read.1, up)

pub first_from-requires-clause-rising : goal.first_from-requires-clause-rising
first_from-requires-clause-rising c =
    let read = starts_read _ _ _ _ _ _ c.requires.of c.args.number c.ranges.number.fits
    c.index.result.now c.index-2.result.now c.index.ensures c.index-2.ensures in
    rw c.as_slice-lows.ensures.value
    (rising _ _ _ _ _ _ c.requires.of c.args.number c.ranges.number.fits (c.index.result.now + 8)
    c.index-2.result.now (omega (arith, read.0)) (omega (arith, read.1)))

pub returns-then-less-eq8 : goal.returns-then-less-eq8
returns-then-less-eq8 c = λ w numbers h small.
    let read = starts_read _ _ _ _ _ _ c.requires.of c.args.number c.ranges.number.fits
    c.index.result.now c.index-2.result.now c.index.ensures c.index-2.ensures in
    found_behind w _ _ _ _ numbers h c.args.number c.ranges.number.fits c.index.result.now
    c.index-2.result.now c.less_of_eight.result c.first_from.result read.0 read.1
    (rw c.as_slice-lows.ensures.value at c.less_of_eight.ensures)
    (omega (arith, c.min-less.ensures, c.if-less-eq8.true))
    (rw c.as_slice-lows.ensures.value at c.first_from.ensures) small

pub returns : goal.returns
returns c = λ w numbers h small.
    let read = starts_read _ _ _ _ _ _ c.requires.of c.args.number c.ranges.number.fits
    c.index.result.now c.index-2.result.now c.index.ensures c.index-2.ensures in
    let up = ordered _ _ _ _ _ _ c.requires.of c.args.number c.ranges.number.fits in
    let few = c.less_of_eight.ensures.few in
    found_in_eight w _ _ _ _ numbers h c.args.number c.ranges.number.fits c.index.result.now
    c.index-2.result.now c.less_of_eight.result c.min-less.result read.0 read.1
    (rw c.as_slice-lows.ensures.value at c.less_of_eight.ensures)
    (omega (arith, c.min-less.ensures))
    (omega (arith, c.min-less.ensures, up, read.0, read.1))
    (λ l. omega (arith, c.min-less.ensures))
    (omega (arith, c.min-less.ensures, few, c.if-less-eq8.false)) small
