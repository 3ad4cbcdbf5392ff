use Rattle.cidr.proofs.Known.{after_write_fault}
use Rattle.cidr.proofs.laws.runs.after_a_write_fault.Goals as goal

pub returns : goal.returns
returns c = after_write_fault
