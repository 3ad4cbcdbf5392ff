use Rattle.ipnetwork_law_uses.proofs.sets_of_networks.networks_that_overlap_are_nested.Goals as goal

pub returns-clause-v4 : goal.returns-clause-v4
returns-clause-v4 c = λ a b h k. (c.nesting.ensures.nested 32 a b h k, c.nesting.ensures.by_address 32 a b h k)

pub returns-clause-v6 : goal.returns-clause-v6
returns-clause-v6 c = λ a b h k. (c.nesting.ensures.nested 128 a b h k, c.nesting.ensures.by_address 128 a b h k)

pub returns-clause-back : goal.returns-clause-back
returns-clause-back c = λ a b. (c.nesting.ensures.symmetric 32 a b, c.nesting.ensures.symmetric 128 a b)
