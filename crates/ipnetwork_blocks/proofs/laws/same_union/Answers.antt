use Rattle.ipnetwork_blocks.proofs.Known.{aggregate_has_union}
use Rattle.ipnetwork_blocks.proofs.laws.same_union.Goals as goal

pub returns : goal.returns
returns c = aggregate_has_union
