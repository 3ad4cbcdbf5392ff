use Rattle.ipnetwork.proofs.Known.{subst, ReadsValue, string_again, ParsesIpNetwork, ip_network_text}
use Rattle.ipnetwork.proofs.laws.json_texts.ip_network_through_json.Goals as goal

pub returns-clause-back : goal.returns-clause-back
returns-clause-back c =
    let n = c.args.network.now in
    let text = rw c.as_str.ensures.value at c.in_ok-value.ensures.ok in
    let again = string_again _ (ip_network_text n) _ _ c.in_ok-to_value.ensures c.in_ok-text.ensures.reads_back text in
    (c.ip_network_value_reads_back.ensures n _ c.prefix-prefix.ensures.network).0
    (subst (λ s. ReadsValue ParsesIpNetwork s c.from_value-answer.result) again c.from_value-answer.ensures)
