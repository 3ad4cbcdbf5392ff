use Rattle.ipnetwork_blocks.proofs.Known.{aggregate_is_apart, aggregate_has_one_block, aggregate_has_networks}
use Rattle.ipnetwork_blocks.proofs.laws.one_block.Goals as goal

pub returns : goal.returns
returns c = record { apart = aggregate_is_apart; one = aggregate_has_one_block; networks = aggregate_has_networks }
