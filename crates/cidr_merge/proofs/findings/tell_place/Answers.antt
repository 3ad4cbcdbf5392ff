use Rattle.cidr_merge.proofs.Known.{tells_on}
use Rattle.cidr_merge.proofs.findings.tell_place.Goals as goal

pub returns : goal.returns
returns g c =
    tells_on (tells_on (rw c.as_bytes.ensures.value at c.tell_shown.ensures) c.tell.ensures)
    c.tell_number.ensures
