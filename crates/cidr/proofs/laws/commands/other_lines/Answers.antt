use Rattle.cidr.proofs.Known.{unknown_lines, long_lines}
use Rattle.cidr.proofs.laws.commands.other_lines.Goals as goal

pub returns-clause-unknown : goal.returns-clause-unknown
returns-clause-unknown c = unknown_lines

pub returns-clause-long : goal.returns-clause-long
returns-clause-long c = long_lines
