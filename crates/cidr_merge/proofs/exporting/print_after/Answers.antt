use Rattle.cidr_merge.proofs.Known.{ℕ, List, ◌++◌, ap, rules, fails_first, puts_it, puts_two, element}
use Rattle.cidr_merge.proofs.exporting.print_after.Goals as goal

pub returns-in_err-put : goal.returns-in_err-put
returns-in_err-put g c =
    let text = element c.args.names.now c.args.export c.args.version g.A.Address.family c.args.block in
    puts_it _ c.args.output.now c.put.new.self (c.as_bytes.result.now ++ text) _
    (ap (λ (t : List ℕ). t ++ text) c.as_bytes.ensures.value)
    (fails_first _ c.args.output.now c.put.new.self c.as_bytes.result.now text (search rules)
    c.in_err-put.ensures.failed c.in_err-put.ensures.err)

pub returns : goal.returns
returns g c =
    let text = element c.args.names.now c.args.export c.args.version g.A.Address.family c.args.block in
    puts_it c.print_element.result c.args.output.now c.print_element.new.output (c.as_bytes.result.now ++ text) _
    (ap (λ (t : List ℕ). t ++ text) c.as_bytes.ensures.value)
    (puts_two c.print_element.result c.args.output.now c.put.new.self c.print_element.new.output
    c.as_bytes.result.now text
    c.in_ok-put.ensures.ok c.in_ok-put.ensures.failed c.print_element.ensures)
