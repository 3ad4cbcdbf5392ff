use Rattle.cidr_merge.proofs.Known.{inr, rules, ends_writing}
use Rattle.cidr_merge.proofs.split.print_split.Goals as goal

pub returns : goal.returns
returns g c =
    inr (
      (search rules),
      ends_writing c.write_split-written.result c.args.output.now c.write_split-written.new.output _
          c.status-status.result _ c.end.result c.write_split-written.ensures c.end.ensures
          c.status-status.ensures,
    )
