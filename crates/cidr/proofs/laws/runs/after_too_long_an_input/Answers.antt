use Rattle.cidr.proofs.Known.{after_too_long}
use Rattle.cidr.proofs.laws.runs.after_too_long_an_input.Goals as goal

pub returns : goal.returns
returns c = after_too_long
