use Rattle.line_addresses.proofs.Known.{none_ending}
use Rattle.line_addresses.proofs.laws.ends_no_address.Goals as goal

pub returns : goal.returns
returns c = none_ending c.named_address.ensures c.v4_text_bytes.ensures c.v6_text_bytes.ensures
