use Rattle.ipnetwork_law_uses.proofs.address_texts.a_v4_address_has_its_mapped.Goals as goal

pub returns : goal.returns
returns c = λ a l. c.each_v4_has_its_mapped.ensures a l
