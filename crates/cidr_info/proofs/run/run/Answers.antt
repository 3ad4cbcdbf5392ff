use Rattle.cidr_info.proofs.Known.{◌∙◌, List, ap, inl, inr, refl, sym, subst, Item, printed, not_asked, ending, EndsItems, are_right, HELP, VERSION}
use Rattle.cidr_info.proofs.run.run.Goals as goal

pub returns-in-Some : goal.returns-in-Some
returns-in-Some g c = (
  c.table-table.result,
  c.table-table.ensures,
  printed HELP.now VERSION.now c.args.words.now _
      (ending c.args.output.now c.print_text.new.output c.args.errors.now c.print_text.new.errors c.print_text.result)
      c.in-Some.text.now c.in-Some.ensures c.print_text.ensures,
)

pub returns-in-Some-fault_of : goal.returns-in-Some-fault_of
returns-in-Some-fault_of g c =
    let table = c.table-table.result in
    let known = g.L.OpenLists.known c.args.lists.now in
    let end = ending c.args.output.now c.args.output.now c.args.errors.now c.refuse_words.new.errors c.refuse_words.result in (
      table,
      c.table-table.ensures,
      not_asked HELP.now VERSION.now c.args.words.now _ end c.in_default.ensures
          (inr (subst (λ (items : List Item). EndsItems table known items end) c.in-Ok.ensures
          (inl (
            sym (c.in-Some-fault_of.ensures ∙ ap (are_right table) c.as_slice.ensures.value),
            (refl, c.refuse_words.ensures),
          )))),
    )

pub returns : goal.returns
returns g c =
    let table = c.table-table.result in
    let known = g.L.OpenLists.known c.args.lists.now in
    let end = ending c.args.output.now c.read.new.output c.args.errors.now c.read.new.errors c.read.result in (
      table,
      c.table-table.ensures,
      not_asked HELP.now VERSION.now c.args.words.now _ end c.in_default.ensures
          (inr (subst (λ (items : List Item). EndsItems table known items end) c.in-Ok.ensures
          (inr (
            sym (c.in_default-fault_of.ensures ∙ ap (are_right table) c.as_slice.ensures.value),
            rw c.as_slice-2.ensures.value at c.read.ensures,
          )))),
    )
