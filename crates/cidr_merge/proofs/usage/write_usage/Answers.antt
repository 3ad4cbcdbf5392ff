use Rattle.cidr_merge.proofs.Known.{rules, fails_first, finished, put_two, puts_badly, puts_two, unfinished}
use Rattle.cidr_merge.proofs.usage.write_usage.Goals as goal

pub returns-in_err-put_lines : goal.returns-in_err-put_lines
returns-in_err-put_lines g c =
    unfinished _ c.args.output.now c.put_lines.new.output _ (search rules)
    (fails_first _ c.args.output.now c.put_lines.new.output _ _ (search rules) c.in_err-put_lines.ensures.failed
    c.in_err-put_lines.ensures.beginning)

pub returns-in_err-put_lines-2 : goal.returns-in_err-put_lines-2
returns-in_err-put_lines-2 g c =
    unfinished _ c.args.output.now c.put_lines-2.new.output _ (search rules)
    (puts_two _ c.args.output.now c.put_lines.new.output c.put_lines-2.new.output _ _ c.in_ok-put_lines.ensures.ok
    c.in_ok-put_lines.ensures.failed
    (puts_badly _ c.put_lines.new.output c.put_lines-2.new.output _ (search rules) c.in_err-put_lines-2.ensures.failed
    c.in_err-put_lines-2.ensures.beginning))

pub returns : goal.returns
returns g c =
    finished c.finish.result c.args.output.now c.put_lines-2.new.output c.finish.new.self _
    (put_two c.args.output.now c.put_lines.new.output c.put_lines-2.new.output _ _ c.in_ok-put_lines.ensures.ok
    c.in_ok-put_lines.ensures.failed c.in_ok-put_lines-2.ensures.ok c.in_ok-put_lines-2.ensures.failed).0
    c.finish.ensures.ok c.finish.ensures.err c.finish.ensures.failed
