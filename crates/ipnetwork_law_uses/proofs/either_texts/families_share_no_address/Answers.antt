use Rattle.ipnetwork_law_uses.proofs.either_texts.families_share_no_address.Goals as goal

pub returns : goal.returns
returns c = λ a b h k. (c.families_are_apart.ensures a b h k).no_overlap
