use Rattle.cidr_merge.proofs.Known.{◌∙◌, Ok, Err, AreAddressTexts, form_read, said_is, too_long}
use Rattle.cidr_merge.proofs.entry_match.entry_of.Goals as goal

pub returns-then-line-gt-LINE_MAX : goal.returns-then-line-gt-LINE_MAX
returns-then-line-gt-LINE_MAX c = too_long c.args.rules c.args.line.now c.if-line-gt-LINE_MAX.true

pub returns-in-Ok : goal.returns-in-Ok
returns-in-Ok c =
    let texts : AreAddressTexts = record {
      v4 = c.v4_text_is_computed.ensures;
      v4_bytes = c.v4_text_bytes.ensures;
      v6_bytes = c.v6_text_bytes.ensures;
    } in
    c.allowed.ensures
    ∙ said_is c.args.rules c.args.line.now (Ok c.in-Ok.said) c.if-line-gt-LINE_MAX.false
    (form_read c.ip_network_reading_is_computed.ensures c.ip_reading_is_computed.ensures texts
    c.mask_conversion.ensures.computed c.args.rules.form c.args.rules.takes_masks c.args.line.now (Ok c.in-Ok.said)
    c.in-Ok.ensures)

pub returns-in-Err : goal.returns-in-Err
returns-in-Err c =
    let texts : AreAddressTexts = record {
      v4 = c.v4_text_is_computed.ensures;
      v4_bytes = c.v4_text_bytes.ensures;
      v6_bytes = c.v6_text_bytes.ensures;
    } in
    said_is c.args.rules c.args.line.now (Err c.in-Err.fault) c.if-line-gt-LINE_MAX.false
    (form_read c.ip_network_reading_is_computed.ensures c.ip_reading_is_computed.ensures texts
    c.mask_conversion.ensures.computed c.args.rules.form c.args.rules.takes_masks c.args.line.now (Err c.in-Err.fault)
    c.in-Err.ensures)
