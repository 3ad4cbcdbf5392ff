use Rattle.line_addresses.proofs.Known.{arith, after_run, at_run, behind_byte, no_more}
use Rattle.line_addresses.proofs.found.next_address.Goals as goal

pub runs-preserved-then-end-at : goal.runs-preserved-then-end-at
runs-preserved-then-end-at c = record {
  behind = omega (arith, c.runs.invariant.behind);
  same = behind_byte c.args.line.now c.args.from c.runs.at c.runs.invariant.same c.run_end-end.result c.runs-test.true
      c.run_end-end.ensures c.if-end-at.true;
}

pub runs-preserved : goal.runs-preserved
runs-preserved c = record {
  behind = omega (arith, c.runs.invariant.behind, c.run_end-end.ensures.behind);
  same = after_run c.args.line.now c.args.from c.runs.at c.runs.invariant.same c.run_end-end.result
      c.run_end-end.ensures c.in_default.ensures;
}

pub returns-in-Some-clause-first : goal.returns-in-Some-clause-first
returns-in-Some-clause-first c =
    at_run c.args.line.now c.args.from c.runs.at c.runs.invariant.same c.run_end-end.result c.in-Some.found
    c.runs.invariant.behind c.run_end-end.ensures c.if-end-at.false c.in-Some.ensures

pub returns-clause-first : goal.returns-clause-first
returns-clause-first c = no_more c.args.line.now c.args.from c.runs.at c.runs.invariant.same c.runs-test.false

pub returns-in-Some-clause-stops : goal.returns-in-Some-clause-stops
returns-in-Some-clause-stops c = c.run_end-end.ensures.stops
