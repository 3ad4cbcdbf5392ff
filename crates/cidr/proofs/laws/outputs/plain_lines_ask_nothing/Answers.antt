use Rattle.cidr.proofs.Known.{asks_nothing, others_routing, one_output}
use Rattle.cidr.proofs.laws.outputs.plain_lines_ask_nothing.Goals as goal

pub returns : goal.returns
returns c = record { line = asks_nothing; others = others_routing; output = one_output }
