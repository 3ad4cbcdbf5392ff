use Rattle.ipnetwork_law_uses.proofs.address_texts.v4_text_is_of_no_other.Goals as goal

pub returns : goal.returns
returns c = λ text a b h n k. n (c.v4_text_names_one.ensures text a b h k)
