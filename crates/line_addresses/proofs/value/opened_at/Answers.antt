use Rattle.line_addresses.proofs.Known.{arith, sym, ◌∙◌, all_passed, passed_over, stops_here}
use Rattle.line_addresses.proofs.value.opened_at.Goals as goal

pub bytes-preserved : goal.bytes-preserved
bytes-preserved c = record {
  within = omega (arith, c.bytes-test.true);
  same = passed_over c.args.text.now c.bytes.before c.bytes.at c.bytes-test.true c.bytes.invariant.same
      (sym c.opens.ensures ∙ c.if-not-opens.false);
}

pub returns-then-not-opens-clause-rest : goal.returns-then-not-opens-clause-rest
returns-then-not-opens-clause-rest c = stops_here c.args.text.now c.bytes.before c.bytes.at c.bytes-test.true
    c.bytes.invariant.same (sym c.opens.ensures ∙ c.if-not-opens.true)

pub returns-clause-rest : goal.returns-clause-rest
returns-clause-rest c =
    all_passed c.args.text.now c.bytes.before c.bytes.at c.bytes-test.false c.bytes.invariant.same
