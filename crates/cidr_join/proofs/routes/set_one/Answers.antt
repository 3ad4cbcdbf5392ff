use Rattle.cidr_join.proofs.Known.{◌∙◌, block_of, put_back, sym}
use Rattle.cidr_join.proofs.routes.set_one.Goals as goal

pub returns-in-Ok-Some-clause-kept : goal.returns-in-Ok-Some-clause-kept
returns-in-Ok-Some-clause-kept g c =
    put_back c.args.table.now (block_of g.N.CidrNetwork.WIDTH (g.N.CidrNetwork.pair c.args.network)) c.args.value
    c.in-Ok-Some.old (sym c.in-Ok-Some.field-0-is ∙ c.in-Ok-Some.ensures.old) c.insert-in-Ok-Some.result
    c.insert.new.self c.insert-in-Ok-Some.new.self c.in-Ok-Some.ensures.set c.insert-in-Ok-Some.ensures.set
    c.insert-in-Ok-Some.ensures.absent
