use Rattle.ipnetwork_law_uses.proofs.address_texts.a_mapped_text_has_its_v4.Goals as goal

pub returns : goal.returns
returns c = λ mapped a h. c.mapped_text_ends_in_its_v4.ensures mapped a h
