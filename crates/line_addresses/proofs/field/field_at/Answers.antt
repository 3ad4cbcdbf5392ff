use Rattle.line_addresses.proofs.Known.{Some, ap, sym, ◌∙◌, take_rest, slice_get, parts_from, part_from}
use Rattle.line_addresses.proofs.field.field_at.Goals as goal

pub returns-in-Some : goal.returns-in-Some
returns-in-Some c = ap (λ l. slice_get l 0)
    (parts_from c.args.separator c.args.line.now c.args.start c.in-Some.end c.in-Some.ensures)

pub returns-in-None : goal.returns-in-None
returns-in-None c = ap (λ l. slice_get l 0) (part_from c.args.separator c.args.line.now c.args.start c.in-None.ensures)
    ∙ ap Some (sym (take_rest c.args.line.now c.args.start))
