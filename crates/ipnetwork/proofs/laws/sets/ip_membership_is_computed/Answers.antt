use Rattle.ipnetwork.proofs.Known.{member_computed}
use Rattle.ipnetwork.proofs.laws.sets.ip_membership_is_computed.Goals as goal

pub returns : goal.returns
returns c = member_computed c.membership_is_computed.ensures
