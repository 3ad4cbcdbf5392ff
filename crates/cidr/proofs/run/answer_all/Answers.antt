use Rattle.cidr.proofs.Known.{◌-◌, ◌∙◌, length, ap, refl, sym, arith, rules, err_from_is_err_and, still_works, begins, after_line, after_long, before_asking, after_asking, less_to_read, read_failed, line_failed, long_failed, writing_failed, finished}
use Rattle.cidr.proofs.Runs.{too_long}
use Rattle.cidr.proofs.run.answer_all.Goals as goal

pub lines-init : goal.lines-init
lines-init g c = record {
  sofar = begins c.args.limit c.from-room.result c.new-lines.result _ _ _ c.from-room.ensures c.new-lines.ensures.holds
      c.new-lines.ensures.ended (c.new-answering.ensures.begins _);
  max = c.new-lines.ensures.limit;
  size = search rules;
  fits = c.new-answering.ensures.fits;
  reader_works = refl;
  writer_works = refl;
}

pub answer_line-requires-clause-short : goal.answer_line-requires-clause-short
answer_line-requires-clause-short g c =
    let given = c.in-Line.ensures.gives c.lines.invariant.sofar.pending c.lines.invariant.sofar.holds in
    omega (arith, given.1, ap length c.line.ensures, c.next.ensures.limit, c.lines.invariant.max)

pub lines-preserved-in_ok-answer_line-in-Line : goal.lines-preserved-in_ok-answer_line-in-Line
lines-preserved-in_ok-answer_line-in-Line g c = record {
  sofar = after_line c.args.limit c.lines.room c.lines.lines c.next.new.self _ _ _ _ _ c.in-Line.field-0
      c.line.result.now c.lines.invariant.sofar c.in-Line.ensures.gives c.next.ensures.ended
      c.line.ensures c.in_ok-answer_line-in-Line.ensures.ok;
  max = c.next.ensures.limit ∙ c.lines.invariant.max;
  size = ap length c.next.ensures.unmoved ∙ c.lines.invariant.size;
  fits = c.in_ok-answer_line-in-Line.ensures.fits;
  reader_works = c.lines.invariant.reader_works;
  writer_works = still_works _ _ _ c.in_ok-answer_line-in-Line.ensures.failed c.lines.invariant.writer_works;
}

pub lines-preserved-in_ok-answer_too_long-in-TooLong : goal.lines-preserved-in_ok-answer_too_long-in-TooLong
lines-preserved-in_ok-answer_too_long-in-TooLong g c = record {
  sofar = after_long c.args.limit c.lines.room 1024 c.lines.lines c.next.new.self _ _ _ _ _ c.lines.invariant.sofar
      c.in-TooLong.ensures.gives c.next.ensures.ended
      (c.next.ensures.limit ∙ c.lines.invariant.max) c.in_ok-answer_too_long-in-TooLong.ensures.ok;
  max = c.next.ensures.limit ∙ c.lines.invariant.max;
  size = ap length c.next.ensures.unmoved ∙ c.lines.invariant.size;
  fits = c.in_ok-answer_too_long-in-TooLong.ensures.fits;
  reader_works = c.lines.invariant.reader_works;
  writer_works = still_works _ _ _ c.in_ok-answer_too_long-in-TooLong.ensures.failed c.lines.invariant.writer_works;
}

pub returns-in_err-answer_line-in-Line-clause-ran : goal.returns-in_err-answer_line-in-Line-clause-ran
returns-in_err-answer_line-in-Line-clause-ran g c =
    let p = err_from_is_err_and c.from_residual.result c.from_residual.ensures.1 in
    rw (p.1, p.2, c.in_err-answer_line-in-Line.ensures.fault)
    (line_failed c.answer_is_computed.ensures c.args.limit c.lines.room c.lines.lines c.next.new.self _ _ _ _ _
    c.in-Line.field-0 c.line.result.now c.lines.invariant.sofar
    c.in-Line.ensures.gives c.next.ensures.ended c.line.ensures c.in_err-answer_line-in-Line.ensures.err)

pub returns-in_err-answer_too_long-in-TooLong-clause-ran : goal.returns-in_err-answer_too_long-in-TooLong-clause-ran
returns-in_err-answer_too_long-in-TooLong-clause-ran g c =
    let p = err_from_is_err_and c.from_residual-in_err-answer_too_long-in-TooLong.result
    c.from_residual-in_err-answer_too_long-in-TooLong.ensures.1 in
    rw (p.1, p.2, c.in_err-answer_too_long-in-TooLong.ensures.fault)
    (long_failed c.answer_is_computed.ensures c.args.limit c.lines.room c.lines.lines c.next.new.self _ _ _ _ _
    c.lines.invariant.sofar
    c.in-TooLong.ensures.gives c.next.ensures.ended c.in_err-answer_too_long-in-TooLong.ensures.err)

-- ---- more bytes are needed

pub returns-in_err-hand_on-in-Ask-clause-ran : goal.returns-in_err-hand_on-in-Ask-clause-ran
returns-in_err-hand_on-in-Ask-clause-ran g c =
    let p = err_from_is_err_and c.from_residual-in_err-hand_on-in-Ask.result
    c.from_residual-in_err-hand_on-in-Ask.ensures.1 in
    rw (p.1, p.2, c.in_err-hand_on-in-Ask.ensures.fault)
    (writing_failed c.answer_is_computed.ensures c.args.limit c.lines.room c.lines.lines _ _ _ _ _
    c.lines.invariant.sofar c.in_err-hand_on-in-Ask.ensures.err)

pub ask-requires : goal.ask-requires
ask-requires g c = (c.in-Ask.ensures.gives c.lines.invariant.sofar.pending c.lines.invariant.sofar.holds).2

pub returns-in_err-count-in-Ask-clause-ran : goal.returns-in_err-count-in-Ask-clause-ran
returns-in_err-count-in-Ask-clause-ran g c =
    let idle = before_asking c.args.limit c.lines.room c.lines.lines c.next.new.self _ _ _ _ _ c.lines.invariant.sofar
    c.in-Ask.ensures.gives c.next.ensures.ended
    c.in_ok-hand_on-in-Ask.ensures.ok c.in_ok-hand_on-in-Ask.ensures.emptied in
    let p = err_from_is_err_and c.from_residual-in_err-count-in-Ask.result
    c.from_residual-in_err-count-in-Ask.ensures.1 in
    rw (p.1, p.2, c.in_err-count-in-Ask.ensures.fault)
    (read_failed c.args.limit c.lines.room c.next.new.self _ _ _ _ _ idle c.in_err-count-in-Ask.ensures.err)

pub returns-then-count-room-clause-ran : goal.returns-then-count-room-clause-ran
returns-then-count-room-clause-ran g c =
    let idle = before_asking c.args.limit c.lines.room c.lines.lines c.next.new.self _ _ _ _ _ c.lines.invariant.sofar
    c.in-Ask.ensures.gives c.next.ensures.ended
    c.in_ok-hand_on-in-Ask.ensures.ok c.in_ok-hand_on-in-Ask.ensures.emptied in
    too_long c.args.limit c.lines.room c.in_ok-count-in-Ask.count c.next.new.self c.ask.new.self _ _ _ _ _ idle
    c.in_ok-count-in-Ask.ensures.read c.if-count-room.true

pub lines-preserved : goal.lines-preserved
lines-preserved g c =
    let before = c.lines.invariant in
    let idle = before_asking c.args.limit c.lines.room c.lines.lines c.next.new.self _ _ _ _ _ before.sofar
    c.in-Ask.ensures.gives c.next.ensures.ended
    c.in_ok-hand_on-in-Ask.ensures.ok c.in_ok-hand_on-in-Ask.ensures.emptied in
    let asked = c.in_ok-count-in-Ask.ensures in
    record {
      sofar = after_asking c.args.limit c.lines.room (c.lines.room - c.in_ok-count-in-Ask.count)
          c.in_ok-count-in-Ask.count c.next.new.self c.ask.new.self _ _ _ _ _ idle
          asked.read asked.ended c.if-count-room.false refl;
      max = asked.limit ∙ c.next.ensures.limit ∙ before.max;
      size = asked.size ∙ ap length c.next.ensures.unmoved ∙ before.size;
      fits = omega (arith, before.fits, c.in_ok-hand_on-in-Ask.ensures.capacity);
      reader_works = still_works _ _ _ asked.failed before.reader_works;
      writer_works = still_works _ _ _ c.in_ok-hand_on-in-Ask.ensures.failed before.writer_works;
    }

pub lines-smaller : goal.lines-smaller
lines-smaller g c =
    let given = c.in-Ask.ensures.gives c.lines.invariant.sofar.pending c.lines.invariant.sofar.holds in
    let asked = c.in_ok-count-in-Ask.ensures in
    less_to_read c.lines.lines c.ask.new.self c.lines.room c.in_ok-count-in-Ask.count
    (sym c.next.ensures.ended ∙ given.3) asked.ended c.if-count-room.false
    (asked.size ∙ ap length c.next.ensures.unmoved ∙ c.lines.invariant.size)

-- ---- the end of the input

pub returns-in_err-hand_on-in-End-clause-ran : goal.returns-in_err-hand_on-in-End-clause-ran
returns-in_err-hand_on-in-End-clause-ran g c =
    let p = err_from_is_err_and c.from_residual-in_err-hand_on-in-End.result
    c.from_residual-in_err-hand_on-in-End.ensures.1 in
    rw (p.1, p.2, c.in_err-hand_on-in-End.ensures.fault)
    (writing_failed c.answer_is_computed.ensures c.args.limit c.lines.room c.lines.lines _ _ _ _ _
    c.lines.invariant.sofar c.in_err-hand_on-in-End.ensures.err)

pub returns-in-End-clause-ran : goal.returns-in-End-clause-ran
returns-in-End-clause-ran g c =
    finished c.answer_is_computed.ensures c.args.limit c.lines.room c.lines.lines c.next.new.self _ _ _ _ _ _
    c.finish.result c.lines.invariant.sofar c.in-End.ensures.gives c.next.ensures.ended
    c.in_ok-hand_on-in-End.ensures.ok c.in_ok-hand_on-in-End.ensures.emptied c.finish.ensures.bytes
    c.finish.ensures.fault
