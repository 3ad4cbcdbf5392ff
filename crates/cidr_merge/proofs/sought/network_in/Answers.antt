use Rattle.cidr_merge.proofs.Known.{Err, no_network}
use Rattle.cidr_merge.proofs.sought.network_in.Goals as goal

pub returns-in-Err : goal.returns-in-Err
returns-in-Err c = no_network c.args.text.now c.in-Err.field-0
    ((c.ip_network_reading_is_computed.ensures c.args.text.now (Err c.in-Err.field-0)).0 c.in-Err.ensures)
