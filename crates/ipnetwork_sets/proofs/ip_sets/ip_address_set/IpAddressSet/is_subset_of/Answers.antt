use Rattle.ipnetwork_sets.proofs.Known.{within, asked_of_both, refused_by_v4}
use Rattle.ipnetwork_sets.proofs.ip_sets.ip_address_set.IpAddressSet.is_subset_of.Goals as goal

pub returns-then-is_subset_of : goal.returns-then-is_subset_of
returns-then-is_subset_of c =
    asked_of_both within c.v4.ensures.blocks c.v4-2.ensures.blocks c.v6.ensures.blocks
    c.v6-then-is_subset_of.ensures.blocks c.is_subset_of.ensures c.if-is_subset_of.true
    c.is_subset_of-then-is_subset_of.ensures

pub returns-else-is_subset_of : goal.returns-else-is_subset_of
returns-else-is_subset_of c = refused_by_v4 within c.v4.ensures.blocks c.v4-2.ensures.blocks c.is_subset_of.ensures
    c.if-is_subset_of.false
