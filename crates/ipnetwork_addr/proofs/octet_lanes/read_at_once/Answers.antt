use Rattle.ipnetwork_addr.proofs.Known.{sym, ◌∙◌, some_names}
use Rattle.ipnetwork_addr.proofs.octet_lanes.read_at_once.Goals as goal

pub returns : goal.returns
returns c =
    some_names c.joined-bytes.result c.args.text.now c.likely_row-row.result c.octets_of_row.result
    c.likely_row-row.ensures c.joined-bytes.ensures
    (sym c.length_of_row.ensures ∙ c.if-length_of_row-count.false) c.octets_of_row.ensures
