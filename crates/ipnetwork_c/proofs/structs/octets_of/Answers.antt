use Rattle.ipnetwork_c.proofs.Known.{ap, ◌∙◌, octets_of_v6, turned_halves}
use Rattle.ipnetwork_c.proofs.structs.octets_of.Goals as goal

pub returns : goal.returns
returns c = turned_halves c.from-number.result ∙ ap octets_of_v6 c.from-number.ensures
