use Rattle.ipnetwork_law_uses.proofs.tables.entries_are_in_order.Goals as goal

pub returns-clause-v4 : goal.returns-clause-v4
returns-clause-v4 g c = λ t i j d e h k l m. c.listing.ensures.wider_first 32 t i j d e h k l m

pub returns-clause-v6 : goal.returns-clause-v6
returns-clause-v6 g c = λ t i j d e h k l m. c.listing.ensures.wider_first 128 t i j d e h k l m
