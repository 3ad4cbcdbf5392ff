use Rattle.ipnetwork_sets.proofs.Known.{added_has, taken_has}
use Rattle.ipnetwork_sets.proofs.laws.changes.Goals as goal

pub returns : goal.returns
returns c = record { inserted = added_has; removed = taken_has }
