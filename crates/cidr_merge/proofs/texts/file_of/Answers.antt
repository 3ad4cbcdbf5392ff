use Rattle.cidr_merge.proofs.Known.{◌^◌, ◌-◌, ◌∙◌, subst, sym, ReadFault, FileStops, cut_off, ends_as_wanted, text_stops, whole}
use Rattle.cidr_merge.proofs.texts.file_of.Goals as goal

pub returns-then-is_cut-clause-err : goal.returns-then-is_cut-clause-err
returns-then-is_cut-clause-err g c =
    cut_off (whole (g.L.OpenLists.known c.args.context.now.lists.now) c.args.is_whole) c.args.name.now
    c.in-Ok.text.items c.args.place c.in-Ok.ensures.ok (rw c.as_slice.ensures.value at (sym c.is_cut.ensures ∙ c.if-is_cut.true))

pub returns-else-is_cut-clause-ok : goal.returns-else-is_cut-clause-ok
returns-else-is_cut-clause-ok g c = (
  c.in-Ok.ensures.ok,
  ends_as_wanted c.args.is_whole c.in-Ok.text.items
      (rw c.as_slice.ensures.value at (sym c.is_cut.ensures ∙ c.if-is_cut.false)),
)

pub returns-in-Err-clause-err : goal.returns-in-Err-clause-err
returns-in-Err-clause-err g c =
    let from = whole (g.L.OpenLists.known c.args.context.now.lists.now) c.args.is_whole in
    subst (λ (fault : ReadFault). FileStops from c.args.name.now fault)
    (sym c.not_read.ensures)
    (text_stops from c.args.name.now c.args.place (2 ^ 64 - 1) c.in-Err.fault c.in-Err.ensures.err)
