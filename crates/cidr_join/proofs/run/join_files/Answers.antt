use Rattle.cidr_join.proofs.Known.{◌∙◌, map, inl, inr, sym, refl, ending, list_text, by_group}
use Rattle.std.proofs.Common.{None, Some}
use Rattle.cidr_join.proofs.run.join_files.Goals as goal

pub returns-in-Some : goal.returns-in-Some
returns-in-Some g c =
    by_group (g.L.OpenLists.known c.args.lists.now) c.args.items.now
    (ending c.args.output.now c.join_by.new.output c.join_by.new.errors c.join_by.new.errors c.join_by.result)
    (Some c.in-Some.lengths) (sym c.lengths_of.ensures ∙ c.in-Some.is) c.join_by.ensures

pub returns-in_default-read_lists : goal.returns-in_default-read_lists
returns-in_default-read_lists g c =
    by_group (g.L.OpenLists.known c.args.lists.now) c.args.items.now
    (ending c.args.output.now c.args.output.now c.read_lists.new.errors c.read_lists.new.errors 2) None
    (sym c.lengths_of.ensures ∙ c.in_default.is)
    (elim c.in_default-read_lists.ensures
    [ inl h ↦ inr (inl (h, (refl, refl))) | inr memory ↦ inl ((refl, refl), memory) ])

pub returns-then-tell_cut_if_asked : goal.returns-then-tell_cut_if_asked
returns-then-tell_cut_if_asked g c =
    let texts = map list_text c.in-Some-read_lists.read.items in
    by_group (g.L.OpenLists.known c.args.lists.now) c.args.items.now
    (ending c.args.output.now c.args.output.now c.tell_cut_if_asked.new.errors c.tell_cut_if_asked.new.errors 2) None
    (sym c.lengths_of.ensures ∙ c.in_default.is)
    (inr (inr (
      texts,
      c.in-Some-read_lists.ensures,
      inl (sym (rw c.as_slice-read.ensures.value at c.tell_cut_if_asked.ensures) ∙ c.if-tell_cut_if_asked.true, (refl, refl)),
    )))

pub returns : goal.returns
returns g c =
    let texts = map list_text c.in-Some-read_lists.read.items in
    by_group (g.L.OpenLists.known c.args.lists.now) c.args.items.now
    (ending c.args.output.now c.join_to.new.output c.join_to.new.errors c.join_to.new.errors c.join_to.result) None
    (sym c.lengths_of.ensures ∙ c.in_default.is)
    (elim (rw c.as_slice-read.ensures.value at c.join_to.ensures) [
      | inl memory ↦ inl memory
      | inr h ↦ inr (inr (
        texts,
        c.in-Some-read_lists.ensures,
        inr (sym (rw c.as_slice-read.ensures.value at c.tell_cut_if_asked.ensures) ∙ c.if-tell_cut_if_asked.false, h),
      ))
    ])
