use Rattle.ipnetwork_law_uses.proofs.address_sets.sizes_add_up.Goals as goal

pub returns-clause-both4 : goal.returns-clause-both4
returns-clause-both4 c = λ a b blocks h. c.sums.ensures.common 32 a b blocks h

pub returns-clause-both6 : goal.returns-clause-both6
returns-clause-both6 c = λ a b blocks h. c.sums.ensures.common 128 a b blocks h

pub returns-clause-alone4 : goal.returns-clause-alone4
returns-clause-alone4 c = λ a b blocks h. c.sums.ensures.difference 32 a b blocks h

pub returns-clause-alone6 : goal.returns-clause-alone6
returns-clause-alone6 c = λ a b blocks h. c.sums.ensures.difference 128 a b blocks h
