use Rattle.cidr_merge.proofs.Known.{tells_one}
use Rattle.cidr_merge.proofs.searching.print_relation.Goals as goal

pub returns : goal.returns
returns g c = tells_one _ c.args.output.now c.tell_line.new.output c.tell_line.ensures
