use Rattle.ipnetwork_addr.proofs.Known.{NamesIp, ip_of, reading_is_computed, ip_computed}
use Rattle.ipnetwork_addr.proofs.laws.computed.ip_reading_is_computed.Goals as goal

pub returns : goal.returns
returns c text result = reading_is_computed NamesIp ip_of ip_computed _ text result
