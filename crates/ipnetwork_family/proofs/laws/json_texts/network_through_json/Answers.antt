use Rattle.ipnetwork_family.proofs.Known.{subst, ParsesNetworkOf, text_of, ReadsValue, string_again}
use Rattle.ipnetwork_family.proofs.laws.json_texts.network_through_json.Goals as goal

pub returns-clause-back : goal.returns-clause-back
returns-clause-back g c =
    let n = c.args.network.now in
    let family = g.A.Address.family in
    let text = rw c.as_str.ensures.value at c.in_ok-value.ensures.ok in
    let again =
    string_again _ (text_of family n) _ _ c.in_ok-to_value.ensures
    c.in_ok-text.ensures.reads_back text in
    (c.network_value_reads_back.ensures n _ c.prefix-prefix.ensures.network).0
    (subst (λ s. ReadsValue (ParsesNetworkOf family) s c.from_value-answer.result) again
    c.from_value-answer.ensures)
