use Rattle.ipnetwork_sets.proofs.Known.{set_has_fewer_blocks}
use Rattle.ipnetwork_sets.proofs.laws.fewer_blocks.Goals as goal

pub returns : goal.returns
returns c = set_has_fewer_blocks c.one_block.ensures.apart
