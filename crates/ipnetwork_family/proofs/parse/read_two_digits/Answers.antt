use Rattle.ipnetwork_family.proofs.Known.{refl, arith, is_digit, two_digits_named}
use Rattle.ipnetwork_family.proofs.parse.read_two_digits.Goals as goal

pub returns-else-value-max : goal.returns-else-value-max
returns-else-value-max c =
    let tens = is_digit _ _ c.is_ascii_digit.ensures.cases c.if-not-is_ascii_digit.false in
    let ones = is_digit _ _ c.is_ascii_digit-2.ensures.cases c.if-not-is_ascii_digit-2.false in
    (two_digits_named c.args.text.now _ (omega arith) tens ones refl, omega arith)
