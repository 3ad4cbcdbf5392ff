use Rattle.cidr_join.proofs.Known.{rules, ◌++◌, puts_two, fails_first}
use Rattle.cidr_join.proofs.tally_logs.put_four.Goals as goal

pub returns-in_err-put_both : goal.returns-in_err-put_both
returns-in_err-put_both g c =
    fails_first c.from_residual.result c.args.output.now c.put_both.new.output (c.args.first.now ++ c.args.second.now)
    (c.args.third.now ++ c.args.fourth.now) (search rules) c.in_err-put_both.ensures.failed
    c.in_err-put_both.ensures.beginning

pub returns : goal.returns
returns g c =
    puts_two c.put_both-2.result c.args.output.now c.put_both.new.output c.put_both-2.new.output
    (c.args.first.now ++ c.args.second.now) (c.args.third.now ++ c.args.fourth.now) c.in_ok-put_both.ensures.ok
    c.in_ok-put_both.ensures.failed c.put_both-2.ensures
