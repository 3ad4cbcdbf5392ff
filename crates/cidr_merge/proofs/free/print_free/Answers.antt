use Rattle.cidr_merge.proofs.Known.{refl, ends_writing, prints_none, prints_some}
use Rattle.cidr_merge.proofs.free.print_free.Goals as goal

pub returns-in_default : goal.returns-in_default
returns-in_default g c = (
  c.free_blocks-blocks.result,
  c.free_blocks-blocks.ensures,
  prints_none c.args.names.now g.A.Address.family c.args.request.now.all c.args.skips c.free_blocks-blocks.result
      c.args.output.now c.args.output.now 1 c.in_default.ensures.steps.0 refl refl,
)

pub returns : goal.returns
returns g c = (
  c.free_blocks-blocks.result,
  c.free_blocks-blocks.ensures,
  prints_some c.args.names.now g.A.Address.family c.args.request.now.all c.args.skips c.free_blocks-blocks.result
      c.args.output.now c.write_free-written.new.output c.end.result c.in-Some.first _
      c.in-Some.ensures.steps
      (ends_writing c.write_free-written.result c.args.output.now c.write_free-written.new.output _
      c.status-status.result _ c.end.result c.write_free-written.ensures c.end.ensures c.status-status.ensures),
)
