use Rattle.cidr_info.proofs.Known.{rules, ◌++◌, ℕ, List, ap, puts_two, puts_it, fails_first, info_text}
use Rattle.cidr_info.proofs.printing.put_info.Goals as goal

pub returns-in_err-put : goal.returns-in_err-put
returns-in_err-put g c =
    let text = info_text c.args.form c.args.network.now in
    puts_it c.from_residual.result c.args.output.now c.put.new.self (c.as_bytes.result.now ++ text) _
    (ap (λ (t : List ℕ). t ++ text) c.as_bytes.ensures.value)
    (fails_first c.from_residual.result c.args.output.now c.put.new.self c.as_bytes.result.now text (search rules)
    c.in_err-put.ensures.failed c.in_err-put.ensures.err)

pub returns : goal.returns
returns g c =
    let text = info_text c.args.form c.args.network.now in
    puts_it c.put_rows.result c.args.output.now c.put_rows.new.output (c.as_bytes.result.now ++ text) _
    (ap (λ (t : List ℕ). t ++ text) c.as_bytes.ensures.value)
    (puts_two c.put_rows.result c.args.output.now c.put.new.self c.put_rows.new.output c.as_bytes.result.now text
    c.in_ok-put.ensures.ok c.in_ok-put.ensures.failed c.put_rows.ensures)
