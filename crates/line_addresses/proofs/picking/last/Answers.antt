use Rattle.line_addresses.proofs.Known.{arith, found_of, one_later, last_picked}
use Rattle.line_addresses.proofs.picking.last.Goals as goal

pub addresses-preserved : goal.addresses-preserved
addresses-preserved c = record {
  within = c.in-Some.ensures.within;
  same = one_later (found_of c.args.networks) c.args.text.now c.addresses.at c.addresses.last c.in-Some.found
      c.addresses.invariant.same c.in-Some.ensures;
  lies = (c.in-Some.ensures.text, omega (arith, c.in-Some.ensures.before_next, c.in-Some.ensures.within));
}

pub returns : goal.returns
returns c = last_picked (found_of c.args.networks) c.args.text.now c.addresses.at c.addresses.last
    c.addresses.invariant.same c.addresses.invariant.lies c.in_default.ensures
