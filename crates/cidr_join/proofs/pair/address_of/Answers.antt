use Rattle.cidr_join.proofs.Known.{ap, ◌∙◌, result_ok, answered}
use Rattle.cidr_join.proofs.pair.address_of.Goals as goal

pub returns : goal.returns
returns c =
    c.ok.ensures.value ∙ ap result_ok
    ((c.ip_reading_is_computed.ensures c.args.text.now c.read_bytes.result).0 c.read_bytes.ensures)
    ∙ answered _ _
