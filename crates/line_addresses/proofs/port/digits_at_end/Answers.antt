use Rattle.line_addresses.proofs.Known.{◌≡◌, ◌-◌, arith, length, sym, ◌∙◌, counted_from, one_more}
use Rattle.line_addresses.proofs.port.digits_at_end.Goals as goal

pub digits-preserved : goal.digits-preserved
digits-preserved c = record {
  within = omega (arith, c.digits.invariant.within);
  digits = one_more c.args.text.now c.digits.at c.digits-test.true
      (sym c.is_ascii_digit.ensures.value ∙ c.if-not-is_ascii_digit.false) c.digits.invariant.digits;
}

pub returns-then-not-is_ascii_digit-clause-is : goal.returns-then-not-is_ascii_digit-clause-is
returns-then-not-is_ascii_digit-clause-is c =
    counted_from c.args.text.now c.digits.at c.digits.invariant.within c.digits.invariant.digits
    (λ some. sym c.is_ascii_digit.ensures.value ∙ c.if-not-is_ascii_digit.true)

pub returns-clause-is : goal.returns-clause-is
returns-clause-is c =
    let none : length c.args.text.now ≡ length c.args.text.now - c.digits.at = omega (arith, c.digits-test.false) in
    none ∙ counted_from c.args.text.now c.digits.at c.digits.invariant.within c.digits.invariant.digits
    (λ some. absurd (omega (arith, some, c.digits-test.false)))
