use Rattle.cidr_filter.proofs.Known.{◌++◌, ◌∷◌, [], arith, decimal, rules, name_head, some_count, puts_it, puts_two, fails_first}
use Rattle.cidr_filter.proofs.naming.put_count.Goals as goal

pub returns-in_err-put_name : goal.returns-in_err-put_name
returns-in_err-put_name g c =
    puts_it c.from_residual.result c.args.output.now c.put_name.new.output _ _
    (some_count c.args.counts c.args.nul c.args.label.now c.args.selected c.if-not-counts.false (omega arith))
    (fails_first c.from_residual.result c.args.output.now c.put_name.new.output (name_head c.args.nul
    c.args.label.now) (decimal c.args.selected ++ 10 ∷ []) (search rules) c.in_err-put_name.ensures.failed
    c.in_err-put_name.ensures.beginning)

pub returns : goal.returns
returns g c =
    puts_it c.put_total.result c.args.output.now c.put_total.new.output _ _
    (some_count c.args.counts c.args.nul c.args.label.now c.args.selected c.if-not-counts.false (omega arith))
    (puts_two c.put_total.result c.args.output.now c.put_name.new.output c.put_total.new.output
    (name_head c.args.nul c.args.label.now) (decimal c.args.selected ++ 10 ∷ []) c.in_ok-put_name.ensures.ok
    c.in_ok-put_name.ensures.failed c.put_total.ensures)
