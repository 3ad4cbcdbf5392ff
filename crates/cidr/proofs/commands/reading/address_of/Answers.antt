use Rattle.cidr.proofs.Known.{ap, ◌∙◌, result_ok, value_of}
use Rattle.cidr.proofs.commands.reading.address_of.Goals as goal

pub returns : goal.returns
returns c =
    c.ok.ensures.value ∙ ap result_ok
    ((c.ip_reading_is_computed.ensures c.args.text.now c.read_bytes.result).0 c.read_bytes.ensures)
    ∙ value_of _ _
