use Rattle.cidr_merge.proofs.Known.{◌∙◌, inl, refl, sym, ap, Ok, None, told_of, asked_ends, ending}
use Rattle.cidr_merge.proofs.run.ask.Goals as goal

pub returns-in-Ok-Ok : goal.returns-in-Ok-Ok
returns-in-Ok-Ok g c =
    asked_ends (g.L.OpenLists.known c.args.lists.now) c.args.words.now
    (ending c.args.output.now c.obey.new.output c.args.errors.now c.obey.new.errors c.obey.result)
    c.table-table.result c.table-table.ensures (told_of (Ok c.in-Ok-Ok.asked))
    (ap told_of (sym c.in-Ok-Ok.field-0-is) ∙ c.in-Ok-Ok.ensures.asked) (
      c.in-Ok-Ok.asked.names.items,
      refl,
      rw (c.as_slice-names.ensures.value, rw c.in-Ok-Ok.field-0-is at c.in-Ok-Ok.ensures.sets) at c.obey.ensures,
    )

pub returns-in-Ok-Err : goal.returns-in-Ok-Err
returns-in-Ok-Err g c =
    asked_ends (g.L.OpenLists.known c.args.lists.now) c.args.words.now
    (ending c.args.output.now c.args.output.now c.args.errors.now c.refuse.new.errors c.refuse.result)
    c.table-table.result c.table-table.ensures None
    (ap told_of (sym c.in-Ok-Err.field-0-is) ∙ c.in-Ok-Err.ensures.asked) (refl, c.refuse.ensures)

pub returns-in-Err : goal.returns-in-Err
returns-in-Err g c = inl ((refl, c.refuse_memory.ensures.status), (c.args.errors.now, c.refuse_memory.ensures.told))
