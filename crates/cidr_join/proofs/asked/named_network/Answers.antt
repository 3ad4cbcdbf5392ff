use Rattle.cidr_join.proofs.Known.{ap, Ok, Err, network_read}
use Rattle.cidr_join.proofs.asked.named_network.Goals as goal

pub returns-in-Ok : goal.returns-in-Ok
returns-in-Ok c = ap network_read
    ((c.ip_network_reading_is_computed.ensures c.args.text.now (Ok c.in-Ok.network)).0 c.in-Ok.ensures)

pub returns-in-Err : goal.returns-in-Err
returns-in-Err c = ap network_read
    ((c.ip_network_reading_is_computed.ensures c.args.text.now (Err _)).0 c.in-Err.ensures)
