use Rattle.line_addresses.proofs.Known.{one_network, no_network}
use Rattle.line_addresses.proofs.stretches.first_of.Goals as goal

pub returns-in-Some : goal.returns-in-Some
returns-in-Some c = one_network c.args.stretch.now c.in-Some.found c.requires.some c.in-Some.ensures

pub returns-in-None : goal.returns-in-None
returns-in-None c = no_network c.args.stretch.now c.next_address.result c.requires.whole c.in-None.ensures
    c.next_address.ensures.first c.next_address.ensures.stops
