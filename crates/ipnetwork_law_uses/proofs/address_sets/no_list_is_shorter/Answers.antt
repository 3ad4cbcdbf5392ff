use Rattle.ipnetwork_law_uses.proofs.address_sets.no_list_is_shorter.Goals as goal

pub returns-clause-v4 : goal.returns-clause-v4
returns-clause-v4 c = λ networks blocks others h all same. c.least.ensures.least 32 networks blocks others h all same

pub returns-clause-v6 : goal.returns-clause-v6
returns-clause-v6 c = λ networks blocks others h all same. c.least.ensures.least 128 networks blocks others h all same

pub returns-clause-needed4 : goal.returns-clause-needed4
returns-clause-needed4 c =
    λ networks blocks others b h all same i. c.least.ensures.needed 32 networks blocks others h all same b i

pub returns-clause-needed6 : goal.returns-clause-needed6
returns-clause-needed6 c =
    λ networks blocks others b h all same i. c.least.ensures.needed 128 networks blocks others h all same b i
