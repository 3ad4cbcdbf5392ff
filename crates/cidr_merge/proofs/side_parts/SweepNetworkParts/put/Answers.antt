use Rattle.cidr_merge.proofs.Known.{ℕ, List, ◌++◌, ◌∙◌, ap, rules, fails_first, puts_it, puts_two, network_line}
use Rattle.cidr_merge.proofs.side_parts.SweepNetworkParts.put.Goals as goal

pub returns-in_err-put : goal.returns-in_err-put
returns-in_err-put g c =
    let line = network_line c.args.names.now g.A.Address.family c.args.block in
    puts_it _ c.args.output.now c.put.new.self (c.as_bytes.result.now ++ line) _
    (ap (λ (t : List ℕ). t ++ line) (c.as_bytes.ensures.value ∙ c.sign_of.ensures))
    (fails_first _ c.args.output.now c.put.new.self c.as_bytes.result.now line (search rules)
    c.in_err-put.ensures.failed c.in_err-put.ensures.err)

pub returns : goal.returns
returns g c =
    let line = network_line c.args.names.now g.A.Address.family c.args.block in
    puts_it c.put_network.result c.args.output.now c.put_network.new.output (c.as_bytes.result.now ++ line) _
    (ap (λ (t : List ℕ). t ++ line) (c.as_bytes.ensures.value ∙ c.sign_of.ensures))
    (puts_two c.put_network.result c.args.output.now c.put.new.self c.put_network.new.output c.as_bytes.result.now line
    c.in_ok-put.ensures.ok c.in_ok-put.ensures.failed c.put_network.ensures)
