use Rattle.cidr.proofs.Known.{after_ok}
use Rattle.cidr.proofs.laws.runs.after_ok.Goals as goal

pub returns : goal.returns
returns c = after_ok
