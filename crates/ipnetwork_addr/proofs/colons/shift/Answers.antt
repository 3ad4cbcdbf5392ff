use Rattle.ipnetwork_addr.proofs.Known.{shifted}
use Rattle.ipnetwork_addr.proofs.colons.shift.Goals as goal

pub returns : goal.returns
returns c = shifted c.args.number c.args.count c.requires.counted c.requires.small
