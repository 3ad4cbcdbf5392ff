use Rattle.ipnetwork_addr.proofs.Known.{refl, several_digits, no_octet_of_several}
use Rattle.ipnetwork_addr.proofs.octet.octet_of_several.Goals as goal

pub returns-then-value-gt-OCTET_MAX : goal.returns-then-value-gt-OCTET_MAX
returns-then-value-gt-OCTET_MAX c =
    no_octet_of_several c.args.a c.args.b c.args.c c.args.more c.first_value.ensures.value c.decimal_value.ensures.value
    c.decimal_value-2.ensures.value c.requires c.if-value-gt-OCTET_MAX.true

pub returns : goal.returns
returns c =
    several_digits c.args.a c.args.b c.args.c c.args.more _ c.first_value.ensures.value c.decimal_value.ensures.value
    c.decimal_value-2.ensures.value c.requires refl c.if-value-gt-OCTET_MAX.false
