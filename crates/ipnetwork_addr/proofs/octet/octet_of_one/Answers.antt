use Rattle.ipnetwork_addr.proofs.Known.{one_digit, no_octet_of_one}
use Rattle.ipnetwork_addr.proofs.octet.octet_of_one.Goals as goal

pub returns-then-value-gt9 : goal.returns-then-value-gt9
returns-then-value-gt9 c = no_octet_of_one _ _ c.decimal_value-value.ensures.value c.if-value-gt9.true

pub returns : goal.returns
returns c = one_digit _ _ c.decimal_value-value.ensures.value c.if-value-gt9.false
