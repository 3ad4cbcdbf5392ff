use Rattle.ipnetwork_table.proofs.Known.{blocks_meet}
use Rattle.ipnetwork_table.proofs.laws.lookups.blocks_of_any_width_that_meet.Goals as goal

pub returns : goal.returns
returns c = blocks_meet
