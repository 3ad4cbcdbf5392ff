use Rattle.ipnetwork.proofs.Known.{refl, sym, ◌∙◌, none_with_colon, none_without_colon}
use Rattle.ipnetwork.proofs.ip_network.IpNetwork.read_bytes.Goals as goal

pub returns-in-Err : goal.returns-in-Err
returns-in-Err c = (
  refl,
  none_with_colon c.v4_text_has_a_dot_first.ensures c.args.text.now (sym c.has_colon_first.ensures
      ∙ c.if-has_colon_first.true) c.in-Err.ensures.1,
)

pub returns-in-Err-read_bytes : goal.returns-in-Err-read_bytes
returns-in-Err-read_bytes c = (
  refl,
  none_without_colon c.v6_text_has_a_colon_first.ensures c.args.text.now (sym c.has_colon_first.ensures
      ∙ c.if-has_colon_first.false) c.in-Err-read_bytes.ensures.1,
)
