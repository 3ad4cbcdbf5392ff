use Rattle.ipnetwork_blocks.proofs.Known.{blocks_are_needed, aggregate_is_least}
use Rattle.ipnetwork_blocks.proofs.laws.least.Goals as goal

pub returns : goal.returns
returns c = record { needed = blocks_are_needed; least = aggregate_is_least }
