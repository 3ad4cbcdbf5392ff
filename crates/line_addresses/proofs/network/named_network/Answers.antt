use Rattle.line_addresses.proofs.Known.{ap, ◌∙◌, Ok, Err, address_read, named_network}
use Rattle.std.specs.Prelude.{Some}
use Rattle.line_addresses.proofs.network.named_network.Goals as goal

pub returns-in-Ok : goal.returns-in-Ok
unfolding named_network
returns-in-Ok c = ap Some c.ip.ensures.made ∙ ap address_read
    ((c.ip_network_reading_is_computed.ensures c.args.text.now (Ok c.in-Ok.network)).0 c.in-Ok.ensures)

pub returns-in-Err : goal.returns-in-Err
unfolding named_network
returns-in-Err c = ap address_read
    ((c.ip_network_reading_is_computed.ensures c.args.text.now (Err _)).0 c.in-Err.ensures)
