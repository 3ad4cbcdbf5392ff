use Rattle.cidr_merge.proofs.held_back.allows_change.Goals as goal

pub returns : goal.returns
returns c = rw c.sum.ensures at c.does_allow.ensures
