use Rattle.ipnetwork_witness.proofs.Known.{v6_texts}
use Rattle.ipnetwork_witness.proofs.laws.names.v6_names_agree.Goals as goal

pub returns : goal.returns
returns c = v6_texts
