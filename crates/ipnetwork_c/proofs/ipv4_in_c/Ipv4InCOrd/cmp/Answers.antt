use Rattle.ipnetwork_c.proofs.Known.{◌∙◌, keyed}
use Rattle.ipnetwork_c.proofs.ipv4_in_c.Ipv4InCOrd.cmp.Goals as goal

pub returns : goal.returns
returns c = c.cmp.ensures ∙ rw (
  c.key_of-first.ensures.key,
  c.key_of-second.ensures.key,
  c.number_of_four-number.ensures,
  c.number_of_four-other_number.ensures,
) (keyed _ _ _ _
    c.key_of-first.ensures.octet c.key_of-second.ensures.octet)
