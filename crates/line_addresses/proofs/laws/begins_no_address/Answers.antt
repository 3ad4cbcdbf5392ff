use Rattle.line_addresses.proofs.Known.{none_in}
use Rattle.line_addresses.proofs.laws.begins_no_address.Goals as goal

pub returns : goal.returns
returns c = none_in c.named_address.ensures c.v4_text_bytes.ensures c.v6_text_bytes.ensures
