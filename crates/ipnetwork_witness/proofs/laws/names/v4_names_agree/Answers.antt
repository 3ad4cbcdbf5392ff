use Rattle.ipnetwork_witness.proofs.Known.{v4_texts}
use Rattle.ipnetwork_witness.proofs.laws.names.v4_names_agree.Goals as goal

pub returns : goal.returns
returns c = v4_texts
