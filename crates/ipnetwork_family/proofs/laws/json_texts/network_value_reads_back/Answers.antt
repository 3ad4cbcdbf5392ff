use Rattle.ipnetwork_family.proofs.Known.{NamesNetworkOf, text_of, IsCause, canonical_names, names_one, value_reads_back}
use Rattle.ipnetwork_family.proofs.laws.json_texts.network_value_reads_back.Goals as goal

pub returns : goal.returns
returns g c n result h =
    let family = g.A.Address.family in
    let clear = c.law_texts.ensures in
    let text = text_of family n in
    value_reads_back (NamesNetworkOf family) (IsCause family.NamesAddress family.IsSuffix)
    family.refusal text (names_one family clear text) n result (canonical_names family clear n h)
