use Rattle.ipnetwork_law_uses.proofs.sets_of_networks.each_mask_has_its_prefix.Goals as goal

pub returns-clause-given4 : goal.returns-clause-given4
returns-clause-given4 c = λ p r h. c.mask_conversion.ensures.converted 32 p r h

pub returns-clause-given6 : goal.returns-clause-given6
returns-clause-given6 c = λ p r h. c.mask_conversion.ensures.converted 128 p r h
