use Rattle.line_addresses.proofs.Known.{ap, sym, Ok, ip_of, answer_from, address_of, named_by_answer}
use Rattle.line_addresses.proofs.laws.named_address.Goals as goal

pub returns : goal.returns
unfolding address_of
returns c text address = (
  λ names. named_by_answer _ (ip_of text) address ((c.ip_reading_is_computed.ensures text (Ok address)).0 names),
  λ is. (c.ip_reading_is_computed.ensures text (Ok address)).1 (sym (ap (answer_from _) is)),
)
