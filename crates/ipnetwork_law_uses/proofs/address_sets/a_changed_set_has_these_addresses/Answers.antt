use Rattle.ipnetwork_law_uses.proofs.address_sets.a_changed_set_has_these_addresses.Goals as goal

pub returns-clause-in4 : goal.returns-clause-in4
returns-clause-in4 c = λ a n blocks x h. c.changes.ensures.inserted 32 a n blocks h x

pub returns-clause-in6 : goal.returns-clause-in6
returns-clause-in6 c = λ a n blocks x h. c.changes.ensures.inserted 128 a n blocks h x

pub returns-clause-out4 : goal.returns-clause-out4
returns-clause-out4 c = λ a n blocks x h. c.changes.ensures.removed 32 a n blocks h x

pub returns-clause-out6 : goal.returns-clause-out6
returns-clause-out6 c = λ a n blocks x h. c.changes.ensures.removed 128 a n blocks h x
