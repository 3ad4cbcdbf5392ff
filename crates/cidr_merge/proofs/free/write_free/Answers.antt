use Rattle.cidr_merge.proofs.Known.{rules, finished, puts_badly, unfinished}
use Rattle.cidr_merge.proofs.free.write_free.Goals as goal

pub returns-in_err-print_found : goal.returns-in_err-print_found
returns-in_err-print_found g c =
    unfinished _ c.args.output.now c.print_found.new.output _ (search rules)
    (puts_badly _ c.args.output.now c.print_found.new.output _ (search rules)
    c.in_err-print_found.ensures.failed c.in_err-print_found.ensures.beginning)

pub returns : goal.returns
returns g c =
    finished c.finish.result c.args.output.now c.print_found.new.output c.finish.new.self _
    c.in_ok-print_found.ensures.ok c.finish.ensures.ok c.finish.ensures.err c.finish.ensures.failed
