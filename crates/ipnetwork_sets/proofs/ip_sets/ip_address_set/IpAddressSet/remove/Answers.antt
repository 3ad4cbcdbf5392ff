use Rattle.ipnetwork_sets.proofs.Known.{taking, changed_v4, changed_v6}
use Rattle.ipnetwork_sets.proofs.ip_sets.ip_address_set.IpAddressSet.remove.Goals as goal

pub returns-in-V4 : goal.returns-in-V4
returns-in-V4 c = rw c.in-V4.is (changed_v4 taking _ _ c.self.inside.v6 _ c.self.view_is c.self.invariant _ _
    c.remove.ensures.set c.remove.ensures.removed c.remove.ensures.room c.remove.ensures.unchanged)

pub returns-in-V6 : goal.returns-in-V6
returns-in-V6 c = rw c.in-V6.is
    (changed_v6 taking _ c.self.inside.v4 _ _ c.self.view_is c.self.invariant _ _ c.remove-in-V6.ensures.set
    c.remove-in-V6.ensures.removed c.remove-in-V6.ensures.room c.remove-in-V6.ensures.unchanged)
