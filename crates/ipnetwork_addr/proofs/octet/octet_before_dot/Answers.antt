use Rattle.ipnetwork_addr.proofs.Known.{refl, digits_before_dot, no_octet_before_dot}
use Rattle.ipnetwork_addr.proofs.octet.octet_before_dot.Goals as goal

pub returns-then-value-gt-OCTET_MAX : goal.returns-then-value-gt-OCTET_MAX
returns-then-value-gt-OCTET_MAX c =
    no_octet_before_dot c.args.a c.args.b c.args.c _ c.first_value.ensures.value c.decimal_value.ensures.value
    c.factor_before.ensures.value c.value_unless_dot.ensures.value refl c.if-value-gt-OCTET_MAX.true

pub returns : goal.returns
returns c =
    digits_before_dot c.args.a c.args.b c.args.c _ c.first_value.ensures.value c.decimal_value.ensures.value
    c.factor_before.ensures.value c.value_unless_dot.ensures.value refl c.if-value-gt-OCTET_MAX.false
