use Rattle.ipnetwork_addr.proofs.Known.{joined_ok, joined_text}
use Rattle.ipnetwork_addr.proofs.octet_lanes.joined.Goals as goal

pub swizzle : goal.swizzle
swizzle c = joined_ok _ _ c.requires.long c.requires.short c.joined_positions.ensures

pub returns : goal.returns
returns c = joined_text c.args.text.now _ c.requires.long c.requires.short c.joined_positions.ensures
