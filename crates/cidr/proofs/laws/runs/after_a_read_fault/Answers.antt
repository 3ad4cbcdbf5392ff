use Rattle.cidr.proofs.Known.{after_read_fault}
use Rattle.cidr.proofs.laws.runs.after_a_read_fault.Goals as goal

pub returns : goal.returns
returns c = after_read_fault
