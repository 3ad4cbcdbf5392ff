use Rattle.cidr_filter.proofs.Known.{◌∙◌, ℕ, List, inl, inr, refl, sym, ap, subst, append-nil, Some, err_from_is_err_and, AppendsBeginning, device_of, has_failed, puts_out, failed_now, handed_out, begins, after_line, after_long, line_stops, long_stops, log_ends, log_left, unwritten, breaks, FiltersLine, is_full, passes, stops}
use Rattle.cidr_filter.specs.declared.filter.Verdict.TheVariants as verdicts
use Rattle.cidr_filter.specs.declared.log.Reached.TheVariants as reached
use Rattle.cidr_filter.proofs.log.filter_log.Goals as goal

pub lines-init : goal.lines-init
lines-init g c = record {
  sofar = begins (is_full c.args.filter.now) (FiltersLine c.args.filter.now) c.args.tally.now
      (g.R.Read.remaining (device_of c.args.reader.now)) c.args.output.now c.args.log.now (c.requires.unread _);
  hurries = c.requires.hurries ∙ sym c.refuses-refuses_long_lines.ensures;
}

-- ---- a line

pub lines-preserved-in-Ok-Line : goal.lines-preserved-in-Ok-Line
lines-preserved-in-Ok-Line g c =
    let s = c.lines.invariant.sofar in
    let remains = g.R.Read.remaining (device_of c.next.new.reader) in
    record {
      sofar = after_line _ _ _ _ _ c.lines.log c.next.new.self _ remains c.lines.output c.next.new.output c.lines.tally
          s
          (has_failed c.next.new.reader) c.in-Ok-Line.ensures.put c.in-Ok-Line.end c.line-line.result.now
          c.whole_line-whole.result.now
          (handed_out c.next.new.self _ remains s.reads.first _ _ c.in-Ok-Line.field-0-is
          (c.in-Ok-Line.ensures.gives _ s.reads.first s.reads.hands)) c.line-line.ensures c.whole_line-whole.ensures
          (sym c.is_spent.ensures ∙ c.lines-test.true) c.filter_line.new.output c.filter_line.new.tally
          (passes c.args.filter.now _ _ c.next.new.output c.lines.tally c.filter_line.new.output c.filter_line.new.tally
          c.in_ok-filter_line-in-Ok-Line.ensures.ok);
      hurries = c.next.ensures.hurries ∙ c.lines.invariant.hurries;
    }

pub returns-in_err-filter_line-in-Ok-Line : goal.returns-in_err-filter_line-in-Ok-Line
returns-in_err-filter_line-in-Ok-Line g c =
    let s = c.lines.invariant.sofar in
    let remains = g.R.Read.remaining (device_of c.next.new.reader) in
    let p = err_from_is_err_and c.from_residual.result c.from_residual.ensures.1 in
    rw (p.1, p.2)
    (line_stops _ _ _ _ _ c.lines.log c.next.new.self _ remains c.lines.output c.next.new.output c.lines.tally s
    (has_failed c.next.new.reader) c.in-Ok-Line.ensures.put c.in-Ok-Line.end c.line-line.result.now
    c.whole_line-whole.result.now
    (handed_out c.next.new.self _ remains s.reads.first _ _ c.in-Ok-Line.field-0-is
    (c.in-Ok-Line.ensures.gives _ s.reads.first s.reads.hands)) c.line-line.ensures c.whole_line-whole.ensures
    (sym c.is_spent.ensures ∙ c.lines-test.true) c.in_err-filter_line-in-Ok-Line.field-0.0 c.filter_line.new.output
    c.filter_line.new.tally
    (stops c.args.filter.now _ _ c.next.new.output c.lines.tally c.filter_line.new.output
    c.in_err-filter_line-in-Ok-Line.field-0.0 c.in_err-filter_line-in-Ok-Line.ensures.err))

-- ---- a line that is too long

pub lines-preserved : goal.lines-preserved
lines-preserved g c =
    let s = c.lines.invariant.sofar in
    let remains = g.R.Read.remaining (device_of c.next.new.reader) in
    let hurries = c.next.ensures.hurries ∙ c.lines.invariant.hurries in
    record {
      sofar = after_long _ _ _ _ _ c.lines.log c.next.new.self _ remains c.lines.output c.next.new.output c.lines.tally
          s
          (has_failed c.next.new.reader) c.in-Ok-TooLong.ensures.put
          (handed_out c.next.new.self _ remains s.reads.first _ _ c.in-Ok-TooLong.field-0-is
          (c.in-Ok-TooLong.ensures.gives _ s.reads.first s.reads.hands))
          (sym c.is_spent.ensures ∙ c.lines-test.true) (hurries ∙ c.if-refuses_long_lines.false) c.add.new.self
          (λ line long. (
            verdicts.TooLong,
            long,
            inr (sym c.refuses-refuses_long_lines.ensures ∙ c.if-refuses_long_lines.false, refl, ap Some c.add.ensures),
          ));
      hurries = hurries;
    }

pub returns-then-refuses_long_lines : goal.returns-then-refuses_long_lines
returns-then-refuses_long_lines g c =
    let s = c.lines.invariant.sofar in
    let remains = g.R.Read.remaining (device_of c.next.new.reader) in
    long_stops _ _ _ _ _ c.lines.log c.next.new.self _ remains c.lines.output c.next.new.output c.lines.tally s
    (has_failed c.next.new.reader) c.in-Ok-TooLong.ensures.put
    (handed_out c.next.new.self _ remains s.reads.first _ _ c.in-Ok-TooLong.field-0-is
    (c.in-Ok-TooLong.ensures.gives _ s.reads.first s.reads.hands))
    (sym c.is_spent.ensures ∙ c.lines-test.true) c.lines.tally
    (λ line long. (
      verdicts.TooLong,
      long,
      inl (sym c.refuses-refuses_long_lines.ensures ∙ c.if-refuses_long_lines.true, (refl, refl)),
    ))

-- ---- no line more

pub returns-in-Ok-End : goal.returns-in-Ok-End
returns-in-Ok-End g c =
    let s = c.lines.invariant.sofar in
    let remains = g.R.Read.remaining (device_of c.next.new.reader) in
    log_ends _ _ _ _ _ c.lines.log c.next.new.self _ remains c.lines.output c.next.new.output c.lines.tally s
    (has_failed c.next.new.reader) c.in-Ok-End.ensures.put reached.End
    (handed_out c.next.new.self _ remains s.reads.first _ _ c.in-Ok-End.field-0-is
    (c.in-Ok-End.ensures.gives _ s.reads.first s.reads.hands))

pub returns-in-Err : goal.returns-in-Err
returns-in-Err g c =
    let s = c.lines.invariant.sofar in
    breaks _ _ _ _ _ c.lines.log c.next.new.self _ (g.R.Read.remaining (device_of c.next.new.reader)) c.lines.output
    c.next.new.output c.lines.tally s (has_failed c.next.new.reader) c.in-Err.fault c.lines.tally
    (c.in-Err.ensures.breaks _ s.reads.first s.reads.hands)

pub returns-in-Ok : goal.returns-in-Ok
returns-in-Ok g c =
    let remains = g.R.Read.remaining (device_of c.lines.reader) in
    log_left _ _ _ _ _ c.lines.log c.lines.log _ remains c.lines.output c.hand_on.new.self c.lines.tally
    c.lines.invariant.sofar (has_failed c.lines.reader) (puts_out _ _ _ _ c.in-Ok.ensures.emptied c.in-Ok.ensures.ok)
    reached.Last (sym c.is_spent.ensures ∙ c.lines-test.false)

pub returns-in-Err-hand_on : goal.returns-in-Err-hand_on
returns-in-Err-hand_on g c =
    let remains = g.R.Read.remaining (device_of c.lines.reader) in
    unwritten _ _ _ _ _ c.lines.log c.lines.log _ remains c.lines.output c.hand_on.new.self c.lines.tally
    c.lines.invariant.sofar (has_failed c.lines.reader) c.lines.tally
    (failed_now c.hand_on.new.self.failed c.lines.output.failed c.in-Err-hand_on.ensures.failed)
    (subst (λ (w : List ℕ). AppendsBeginning c.lines.output.holds c.hand_on.new.self.holds w)
    (sym (append-nil c.lines.output.waits)) c.in-Err-hand_on.ensures.err)
