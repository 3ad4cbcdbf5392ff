use Rattle.cidr_join.proofs.Known.{◌-◌, arith, is_slash, length, no_address}
use Rattle.cidr_join.proofs.pair.ends_in_prefix.Goals as goal

pub returns-then-text-count-eq47 : goal.returns-then-text-count-eq47
returns-then-text-count-eq47 c = λ h. no_address c.v4_text_is_computed.ensures c.v6_text_is_computed.ensures
    c.v4_text_bytes.ensures c.v6_text_bytes.ensures c.args.text.now (length c.args.text.now - 3)
    (omega (arith, c.if-count-gt2.true)) (is_slash _ h)

pub returns-else-text-count-eq47 : goal.returns-else-text-count-eq47
returns-else-text-count-eq47 c = λ h. no_address c.v4_text_is_computed.ensures c.v6_text_is_computed.ensures
    c.v4_text_bytes.ensures c.v6_text_bytes.ensures c.args.text.now (length c.args.text.now - 2)
    (omega (arith, c.if-count-gt2.true)) (is_slash _ h)
