use Rattle.cidr_merge.proofs.Known.{any_unless_empty}
use Rattle.cidr_merge.proofs.reduce.is_any.Goals as goal

pub returns : goal.returns
returns g c = any_unless_empty c.args.set.now c.is_empty.result c.is_empty.ensures
