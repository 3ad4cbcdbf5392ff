use Rattle.ipnetwork_witness.proofs.Known.{v4_ours, v4_theirs}
use Rattle.ipnetwork_witness.proofs.laws.names.v4_texts_are_shared.Goals as goal

pub returns-clause-ours : goal.returns-clause-ours
returns-clause-ours c = v4_ours

pub returns-clause-theirs : goal.returns-clause-theirs
returns-clause-theirs c = v4_theirs
