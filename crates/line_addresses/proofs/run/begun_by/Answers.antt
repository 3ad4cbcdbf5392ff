use Rattle.line_addresses.proofs.Known.{◌≡◌, ◌-◌, None, arith, sym, subst, take, length, ◌∙◌, true≢false, MatchOption, eqb-true, Spelled, Shows, before_port, some_from, shown_by_nothing, shown_in, begun_by_other, left_marked, left_unmarked}
use Rattle.std.specs.Prelude.{Option}
use Rattle.line_addresses.proofs.Shown.{whole, marked}
use Rattle.line_addresses.proofs.run.begun_by.Goals as goal

pub returns-then-is_empty : goal.returns-then-is_empty
returns-then-is_empty c = shown_by_nothing c.args.run.now (eqb-true _ _ (sym c.is_empty.ensures ∙ c.if-is_empty.true))

pub returns-then-not-is_address_byte : goal.returns-then-not-is_address_byte
returns-then-not-is_address_byte c =
    begun_by_other c.begins_no_address.ensures c.args.run.now
    (some_from _ (sym c.is_empty.ensures ∙ c.if-is_empty.false))
    (λ h. true≢false (sym (c.is_address_byte.ensures.occurs.1 h) ∙ c.if-not-is_address_byte.true))

pub returns-in-Some : goal.returns-in-Some
returns-in-Some c = whole c.args.run.now c.in-Some.address (sym c.address_of.ensures ∙ c.in-Some.is)

pub returns-in-Some-address_of : goal.returns-in-Some-address_of
returns-in-Some-address_of c =
    marked c.args.run.now c.in-Some-address_of.address (sym c.address_of.ensures ∙ c.in_default.is)
    (sym c.ends_with_mark.ensures ∙ c.if-not-ends_with_mark.false)
    (sym c.address_of-2.ensures ∙ c.in-Some-address_of.is)

pub returns-then-not-ends_with_mark : goal.returns-then-not-ends_with_mark
returns-then-not-ends_with_mark c =
    subst (λ (found : Option Spelled). MatchOption c.before_port.result (found ≡ None)
    (λ shown. Shows found c.args.run.now shown.0 shown.1))
    (sym (left_unmarked c.args.run.now (sym c.address_of.ensures ∙ c.in_default.is)
    (sym c.ends_with_mark.ensures ∙ c.if-not-ends_with_mark.true))) c.before_port.ensures

pub returns : goal.returns
returns c =
    let run = c.args.run.now in
    let found = left_marked run (sym c.address_of.ensures ∙ c.in_default.is)
    (sym c.ends_with_mark.ensures ∙ c.if-not-ends_with_mark.false)
    (sym c.address_of-2.ensures ∙ c.in_default-address_of.is) in
    subst (λ (found : Option Spelled). MatchOption c.before_port-2.result (found ≡ None)
    (λ shown. Shows found run shown.0 shown.1)) (sym found)
    (shown_in (before_port (take (length run - 1) run)) run (length run - 1) c.before_port-2.result (omega arith)
    c.before_port-2.ensures)
