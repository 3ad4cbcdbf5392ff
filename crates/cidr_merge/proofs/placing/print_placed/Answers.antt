use Rattle.cidr_merge.proofs.Known.{◌∙◌, ends_writing, inr, sym}
use Rattle.cidr_merge.proofs.placing.print_placed.Goals as goal

pub returns : goal.returns
returns g c = inr (
  sym c.does_lack.ensures ∙ c.if-does_lack.false,
  ends_writing c.write_places-written.result c.args.output.now c.write_places-written.new.output _
      c.status-status.result _ c.end.result c.write_places-written.ensures c.end.ensures c.status-status.ensures,
)
