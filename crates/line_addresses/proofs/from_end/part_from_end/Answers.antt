use Rattle.line_addresses.proofs.Known.{sym, ap, ◌∙◌, arith, slice_get, first_word, later_word, no_more_parts, first_part, part_counts, part_skipped, parts_before}
use Rattle.line_addresses.proofs.from_end.part_from_end.Goals as goal

pub bytes-preserved-then-is_skipped : goal.bytes-preserved-then-is_skipped
bytes-preserved-then-is_skipped c = record {
  ordered = omega arith;
  within = omega (arith, c.bytes.invariant.ordered, c.bytes.invariant.within);
  uncut = λ position behind below. absurd (omega (arith, behind, below));
  same = c.bytes.invariant.same ∙ part_skipped c.bytes.more _ _ _ _ (parts_before c.args.separator c.args.line.now
      c.bytes.at c.bytes.end c.bytes-test.true c.bytes.invariant.ordered c.bytes.invariant.within
      (sym c.cuts.ensures ∙ c.if-not-cuts.false) c.bytes.invariant.uncut)
      (sym c.is_skipped.ensures ∙ c.if-is_skipped.true);
}

pub bytes-preserved : goal.bytes-preserved
bytes-preserved c = record {
  ordered = omega arith;
  within = omega (arith, c.bytes.invariant.ordered, c.bytes.invariant.within);
  uncut = λ position behind below. absurd (omega (arith, behind, below));
  same = c.bytes.invariant.same ∙ later_word _ _ _ c.bytes.more (omega (arith, c.if-more-eq0.false))
      (part_counts _ _ _ _ (parts_before c.args.separator c.args.line.now c.bytes.at c.bytes.end c.bytes-test.true
      c.bytes.invariant.ordered c.bytes.invariant.within (sym c.cuts.ensures ∙ c.if-not-cuts.false)
      c.bytes.invariant.uncut) (sym c.is_skipped.ensures ∙ c.if-is_skipped.false));
}

pub returns-then-more-eq0 : goal.returns-then-more-eq0
returns-then-more-eq0 c =
    c.bytes.invariant.same ∙ first_word _ _ _ c.bytes.more c.if-more-eq0.true
    (part_counts _ _ _ _ (parts_before c.args.separator c.args.line.now c.bytes.at c.bytes.end c.bytes-test.true
    c.bytes.invariant.ordered c.bytes.invariant.within (sym c.cuts.ensures ∙ c.if-not-cuts.false)
    c.bytes.invariant.uncut) (sym c.is_skipped.ensures ∙ c.if-is_skipped.false))

pub returns-then-more-gt0 : goal.returns-then-more-gt0
returns-then-more-gt0 c =
    c.bytes.invariant.same
    ∙ ap (λ l. slice_get l c.bytes.more) (first_part c.args.separator c.args.line.now c.bytes.at c.bytes.end
    c.bytes-test.false c.bytes.invariant.uncut (sym c.is_skipped-2.ensures ∙ c.if-is_skipped-2.false))
    ∙ no_more_parts c.bytes.more _ c.if-more-gt0.true

pub returns : goal.returns
returns c =
    c.bytes.invariant.same ∙ first_word _ _ _ c.bytes.more (omega (arith, c.if-more-gt0.false))
    (first_part c.args.separator c.args.line.now c.bytes.at c.bytes.end c.bytes-test.false c.bytes.invariant.uncut
    (sym c.is_skipped-2.ensures ∙ c.if-is_skipped-2.false))
