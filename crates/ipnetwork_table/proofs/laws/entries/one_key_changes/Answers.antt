use Rattle.ipnetwork_table.proofs.Known.{set_one, take_one}
use Rattle.ipnetwork_table.proofs.laws.entries.one_key_changes.Goals as goal

pub returns-clause-insert : goal.returns-clause-insert
returns-clause-insert g c = λ t n v. set_one t n v

pub returns-clause-remove : goal.returns-clause-remove
returns-clause-remove g c = λ t n. take_one t n
