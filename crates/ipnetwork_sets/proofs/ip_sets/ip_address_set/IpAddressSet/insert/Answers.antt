use Rattle.ipnetwork_sets.proofs.Known.{adding, changed_v4, changed_v6}
use Rattle.ipnetwork_sets.proofs.ip_sets.ip_address_set.IpAddressSet.insert.Goals as goal

pub returns-in-V4 : goal.returns-in-V4
returns-in-V4 c = rw c.in-V4.is (changed_v4 adding _ _ c.self.inside.v6 _ c.self.view_is c.self.invariant _ _
    c.insert.ensures.set c.insert.ensures.added c.insert.ensures.room c.insert.ensures.unchanged)

pub returns-in-V6 : goal.returns-in-V6
returns-in-V6 c = rw c.in-V6.is
    (changed_v6 adding _ c.self.inside.v4 _ _ c.self.view_is c.self.invariant _ _ c.insert-in-V6.ensures.set
    c.insert-in-V6.ensures.added c.insert-in-V6.ensures.room c.insert-in-V6.ensures.unchanged)
