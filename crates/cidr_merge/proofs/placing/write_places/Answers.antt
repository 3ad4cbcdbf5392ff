use Rattle.cidr_merge.proofs.Known.{finished}
use Rattle.cidr_merge.proofs.placing.write_places.Goals as goal

pub returns : goal.returns
returns g c =
    finished c.finish.result c.args.output.now c.put_places.new.output c.finish.new.self _ c.in_ok-put_places.ensures.ok
    c.finish.ensures.ok c.finish.ensures.err c.finish.ensures.failed
