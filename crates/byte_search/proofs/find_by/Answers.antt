use Rattle.byte_search.proofs.Known.{◌≡◌, ◌+◌, ◌-◌, length, subst, arith, IsAbsent, unmarked, first_marked, left_of, further, onward}
use Rattle.byte_search.proofs.find_by.Goals as goal

pub returns-then-marks-ne0 : goal.returns-then-marks-ne0
returns-then-marks-ne0 g c =
    onward c.args.byte c.args.text.now c.args.from c.loop-at.at _ c.loop-at.invariant.low c.loop-at.invariant.seen
    (first_marked c.args.byte c.args.text.now c.loop-at.at g.row.N _ (omega arith) (omega arith)
    c.marks_of-marks.ensures c.if-marks-ne0.true)

pub loop-at-preserved : goal.loop-at-preserved
loop-at-preserved g c =
    let none = unmarked c.args.byte c.args.text.now c.loop-at.at g.row.N _ (omega arith) (omega arith)
    c.marks_of-marks.ensures (omega arith) in
    record {
      low = omega arith;
      within = omega arith;
      seen = further c.args.byte c.args.text.now c.args.from c.loop-at.at (c.loop-at.at + g.row.N)
          c.loop-at.invariant.seen none;
    }

pub returns-then-marks-eq0 : goal.returns-then-marks-eq0
returns-then-marks-eq0 g c =
    let text = c.args.text.now in
    let at = c.loop-at.at in
    let last = length text - g.row.N in
    let left = left_of c.args.byte text last at g.row.N c.marks_of.result (omega arith) (omega arith)
    c.marks_of.ensures in
    let none = unmarked c.args.byte text at (last + g.row.N - at) _ (omega arith) (omega arith) left
    c.if-marks-eq0.true in
    let whole : at + (last + g.row.N - at) ≡ length text = omega arith in
    further c.args.byte text c.args.from at (length text) c.loop-at.invariant.seen
    (subst (IsAbsent c.args.byte text at) whole none)

pub returns : goal.returns
returns g c =
    let text = c.args.text.now in
    let at = c.loop-at.at in
    let last = length text - g.row.N in
    let left = left_of c.args.byte text last at g.row.N c.marks_of.result (omega arith) (omega arith)
    c.marks_of.ensures in
    onward c.args.byte text c.args.from at _ c.loop-at.invariant.low c.loop-at.invariant.seen
    (first_marked c.args.byte text at (last + g.row.N - at) _ (omega arith) (omega arith) left c.if-marks-eq0.false)
