use Rattle.line_addresses.proofs.Known.{arith, inside, behind_stretch, at_stretch, ends_stretch, at_slash_run, slash_passed}
use Rattle.line_addresses.proofs.NextNetworks.{behind_byte, no_more}
use Rattle.line_addresses.proofs.stretches.next_network.Goals as goal

pub stretches-preserved-then-line-at-eq47 : goal.stretches-preserved-then-line-at-eq47
stretches-preserved-then-line-at-eq47 c = record {
  behind = omega (arith, c.stretches.invariant.behind, c.run_end-run.ensures.behind);
  within = c.run_end-run.ensures.within;
  same = slash_passed c.args.line.now c.args.from c.stretches.at c.run_end-run.result c.stretches.invariant.same
      c.stretches-test.true c.if-line-at-eq47.true c.run_end-run.ensures c.in_default.ensures;
}

pub stretches-preserved-then-end-at : goal.stretches-preserved-then-end-at
stretches-preserved-then-end-at c = record {
  behind = omega (arith, c.stretches.invariant.behind);
  within = omega (arith, c.stretches-test.true);
  same = behind_byte c.args.line.now c.args.from c.stretches.at c.stretches.invariant.same c.stretch_end-end.result
      c.stretches-test.true c.stretch_end-end.ensures c.if-end-at.true;
}

pub first_of-requires-clause-whole : goal.first_of-requires-clause-whole
first_of-requires-clause-whole c = inside ends_stretch c.args.line.now c.stretches.at c.stretch_end-end.result
    c.stretch_end-end.ensures

pub stretches-preserved : goal.stretches-preserved
stretches-preserved c = record {
  behind = omega (arith, c.stretches.invariant.behind, c.stretch_end-end.ensures.behind);
  within = c.stretch_end-end.ensures.within;
  same = behind_stretch c.args.line.now c.args.from c.stretches.at c.stretches.invariant.same c.stretch_end-end.result
      c.stretch_end-end.ensures c.in_default-first_of.ensures;
}

pub returns-in-Some : goal.returns-in-Some
returns-in-Some c =
    at_slash_run c.args.line.now c.args.from c.stretches.at c.run_end-run.result c.stretches.invariant.same
    c.stretches-test.true c.if-line-at-eq47.true c.run_end-run.ensures c.in-Some.found
    c.stretches.invariant.behind c.in-Some.ensures

pub returns-in-Some-first_of : goal.returns-in-Some-first_of
returns-in-Some-first_of c =
    at_stretch c.args.line.now c.args.from c.stretches.at c.stretches.invariant.same c.stretch_end-end.result
    c.in-Some-first_of.found c.stretches.invariant.behind c.stretch_end-end.ensures c.in-Some-first_of.ensures

pub returns : goal.returns
returns c = no_more c.args.line.now c.args.from c.stretches.at c.stretches.invariant.same c.stretches-test.false
