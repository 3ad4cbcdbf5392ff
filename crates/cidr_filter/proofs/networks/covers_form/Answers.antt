use Rattle.cidr_filter.proofs.networks.covers_form.Goals as goal

pub returns-clause-covered : goal.returns-clause-covered
returns-clause-covered c = rw c.asked_network.ensures at c.covers_either.ensures.covered
