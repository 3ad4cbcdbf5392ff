use Rattle.line_addresses.proofs.Known.{ap, arith, ◌∙◌, slice_get, found_of, later_word, next_picked}
use Rattle.line_addresses.proofs.picking.numbered.Goals as goal

pub addresses-preserved : goal.addresses-preserved
addresses-preserved c = record {
  within = c.in-Some.ensures.within;
  same = c.addresses.invariant.same ∙ later_word _ _ _ c.addresses.more (omega (arith, c.if-more-eq0.false))
      c.in-Some.ensures.first;
}

pub returns-then-more-eq0 : goal.returns-then-more-eq0
returns-then-more-eq0 c = next_picked (found_of c.args.networks) c.args.text.now c.addresses.at c.addresses.more
    c.in-Some.found _ c.in-Some.ensures c.addresses.invariant.same c.if-more-eq0.true

pub returns : goal.returns
returns c = c.addresses.invariant.same ∙ ap (λ l. slice_get l c.addresses.more) c.in_default.ensures
