use Rattle.line_addresses.proofs.Known.{slash_at, no_slash}
use Rattle.line_addresses.proofs.network.has_slash.Goals as goal

pub returns-in-Some : goal.returns-in-Some
returns-in-Some c = slash_at c.args.text.now c.in-Some.at c.in-Some.ensures

pub returns-in-None : goal.returns-in-None
returns-in-None c = no_slash c.args.text.now c.in-None.ensures
