use Rattle.ipnetwork.proofs.Known.{listed_members, members_ascend}
use Rattle.ipnetwork.proofs.laws.sets.ip_listing.Goals as goal

pub returns : goal.returns
returns c = record { members = listed_members c.listing.ensures; ascending = members_ascend c.listing.ensures }
