use Rattle.line_addresses.proofs.Known.{arith, sym, ◌∙◌, eqb-true, take_rest, nothing_first, nowhere, found_at, inside_name, not_at, some_from}
use Rattle.line_addresses.proofs.first_position.following.Goals as goal

pub returns-then-is_empty : goal.returns-then-is_empty
returns-then-is_empty c = nothing_first c.args.text.now c.args.line.now
    (eqb-true _ _ (sym c.is_empty.ensures ∙ c.if-is_empty.true))

pub positions-preserved-then-not-begins_name : goal.positions-preserved-then-not-begins_name
positions-preserved-then-not-begins_name c = record {
  within = omega (arith, c.in-Some.ensures.within);
  same = inside_name c.args.text.now c.args.line.now (some_from _ (sym c.is_empty.ensures ∙ c.if-is_empty.false))
      c.positions.at c.in-Some.position c.in-Some.ensures c.positions.invariant.same
      (sym c.begins_name.ensures ∙ c.if-not-begins_name.true);
}

pub returns-in-Some-strip_prefix : goal.returns-in-Some-strip_prefix
returns-in-Some-strip_prefix c =
    found_at c.args.text.now c.args.line.now (some_from _ (sym c.is_empty.ensures ∙ c.if-is_empty.false)) c.positions.at
    c.in-Some.position c.in-Some.ensures c.positions.invariant.same _ (take_rest c.args.line.now c.in-Some.position)
    c.in-Some-strip_prefix.rest.now (sym c.begins_name.ensures ∙ c.if-not-begins_name.false)
    c.in-Some-strip_prefix.ensures.cases.0 c.in-Some-strip_prefix.ensures.cases.1

pub positions-preserved : goal.positions-preserved
positions-preserved c = record {
  within = omega (arith, c.in-Some.ensures.within);
  same = not_at c.args.text.now c.args.line.now (some_from _ (sym c.is_empty.ensures ∙ c.if-is_empty.false))
      c.positions.at c.in-Some.position c.in-Some.ensures c.positions.invariant.same _
      (take_rest c.args.line.now c.in-Some.position) c.in_default-strip_prefix.ensures.cases;
}

pub returns : goal.returns
returns c =
    c.positions.invariant.same ∙ nowhere c.args.text.now c.args.line.now (some_from _
    (sym c.is_empty.ensures ∙ c.if-is_empty.false)) c.positions.at c.positions.invariant.within c.in_default.ensures
