use Rattle.line_addresses.proofs.Known.{◌==◌, ◌+◌, drop, ap, ◌∙◌, arith, slice_get, slice_split, parts_from, part_from, one_part_less, no_more_parts}
use Rattle.line_addresses.proofs.field.field_of.Goals as goal

pub returns-in_default : goal.returns-in_default
returns-in_default c =
    c.loop-more.invariant.same ∙ ap (λ l. slice_get l c.loop-more.more)
    (part_from c.args.separator c.args.line.now c.loop-more.start c.in_default.ensures)
    ∙ no_more_parts c.loop-more.more (drop c.loop-more.start c.args.line.now) c.loop-more-test.true

pub loop-more-preserved : goal.loop-more-preserved
loop-more-preserved c = record {
  within = omega (arith, c.in-Some.ensures.within);
  same = c.loop-more.invariant.same ∙ ap (λ l. slice_get l c.loop-more.more)
      (parts_from c.args.separator c.args.line.now c.loop-more.start c.in-Some.end c.in-Some.ensures)
      ∙ one_part_less c.loop-more.more _
      (slice_split (λ b. b == c.args.separator) (drop (c.in-Some.end + 1) c.args.line.now)) c.loop-more-test.true;
}
