use Rattle.ipnetwork_witness.proofs.Known.{v6_ours, v6_theirs}
use Rattle.ipnetwork_witness.proofs.laws.names.v6_texts_are_shared.Goals as goal

pub returns-clause-ours : goal.returns-clause-ours
returns-clause-ours c = v6_ours

pub returns-clause-theirs : goal.returns-clause-theirs
returns-clause-theirs c = v6_theirs
