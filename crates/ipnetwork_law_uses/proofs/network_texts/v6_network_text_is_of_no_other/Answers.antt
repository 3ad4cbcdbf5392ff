use Rattle.ipnetwork_law_uses.proofs.network_texts.v6_network_text_is_of_no_other.Goals as goal

pub returns : goal.returns
returns c = λ text a b h n k. n (c.network_text_names_one.ensures text a b h k)
