use Rattle.cidr_join.proofs.Known.{stands_v4, stands_v6}
use Rattle.cidr_join.proofs.value_ids.ValueIds.number_at.Goals as goal

pub returns-in-V4 : goal.returns-in-V4
returns-in-V4 c network routes h =
    let found = c.number_in.ensures in
    rw (c.in-V4.is, found.3) (stands_v4 routes c.args.self.now network c.in-V4.asked found.0 h found.1 found.2)

pub returns-in-V6 : goal.returns-in-V6
returns-in-V6 c network routes h =
    let found = c.number_in-in-V6.ensures in
    rw (c.in-V6.is, found.3) (stands_v6 routes c.args.self.now network c.in-V6.asked found.0 h found.1 found.2)
