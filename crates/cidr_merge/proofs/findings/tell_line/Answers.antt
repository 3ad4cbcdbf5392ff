use Rattle.cidr_merge.proofs.Known.{tells_on}
use Rattle.cidr_merge.proofs.findings.tell_line.Goals as goal

pub returns : goal.returns
returns g c =
    tells_on (tells_on (tells_on (tells_on (tells_on c.tell_place.ensures c.tell.ensures)
    c.tell_bytes.ensures) c.tell-2.ensures) c.tell_escaped.ensures) c.tell-3.ensures
