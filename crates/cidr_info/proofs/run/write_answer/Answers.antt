use Rattle.cidr_info.proofs.Known.{failed_all, answer_text, rules}
use Rattle.cidr_info.proofs.run.write_answer.Goals as goal

pub returns-clause-err : goal.returns-clause-err
returns-clause-err g c =
    failed_all c.finish-2.result c.args.output.now c.put_infos.new.output c.finish-2.new.self
    (answer_text c.args.items.now c.args.all.now) (search rules) c.finish-2.ensures.failed c.finish-2.ensures.err
