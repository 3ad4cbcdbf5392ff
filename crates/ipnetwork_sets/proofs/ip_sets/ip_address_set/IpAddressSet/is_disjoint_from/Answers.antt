use Rattle.ipnetwork_sets.proofs.Known.{disjoint, asked_of_both, refused_by_v4}
use Rattle.ipnetwork_sets.proofs.ip_sets.ip_address_set.IpAddressSet.is_disjoint_from.Goals as goal

pub returns-then-is_disjoint_from : goal.returns-then-is_disjoint_from
returns-then-is_disjoint_from c =
    asked_of_both disjoint c.v4.ensures.blocks c.v4-2.ensures.blocks c.v6.ensures.blocks
    c.v6-then-is_disjoint_from.ensures.blocks c.is_disjoint_from.ensures c.if-is_disjoint_from.true
    c.is_disjoint_from-then-is_disjoint_from.ensures

pub returns-else-is_disjoint_from : goal.returns-else-is_disjoint_from
returns-else-is_disjoint_from c = refused_by_v4 disjoint c.v4.ensures.blocks c.v4-2.ensures.blocks
    c.is_disjoint_from.ensures c.if-is_disjoint_from.false
