use Rattle.ipnetwork_blocks.proofs.Known.{range_is_shortest}
use Rattle.ipnetwork_blocks.proofs.laws.ranges_are_shortest.Goals as goal

pub returns : goal.returns
returns c = record { range = range_is_shortest }
