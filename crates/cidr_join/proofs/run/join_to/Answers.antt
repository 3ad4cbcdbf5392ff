use Rattle.cidr_join.proofs.Known.{◌∙◌, map, inl, inr, refl, ap, is_given, ending, list_text, answers_by, same_routes, joined_by}
use Rattle.cidr_join.specs.Options as own
use Rattle.cidr_join.proofs.run.join_to.Goals as goal

pub returns-in_default : goal.returns-in_default
returns-in_default g c = elim (rw c.rules_of.ensures at c.in_default.ensures) [
  | inl h ↦ inr (inl (h, (refl, refl)))
  | inr memory ↦ inl ((refl, refl), memory)
]

pub returns-in_default-of : goal.returns-in_default-of
returns-in_default-of g c = inl
    ((refl, c.refuse_memory.ensures.status), (c.take_lists.new.errors, c.refuse_memory.ensures.told))

pub returns : goal.returns
returns g c =
    joined_by (g.L.OpenLists.known c.args.lists.now) c.args.items.now
    (ending c.args.output.now c.join_by.new.output c.join_by.new.errors c.join_by.new.errors c.join_by.result)
    (map list_text c.args.read.now) c.in-Some.networks
    (rw c.rules_of.ensures at c.in-Some.ensures) c.answers_by-answers.result
    (rw c.is_given-network.ensures at c.answers_by-answers.ensures
    ∙ ap (answers_by (is_given c.args.items.now own.network))
    (same_routes c.in-Ok.routes c.in-Some.networks c.in-Ok.ensures.v4 c.in-Ok.ensures.v6))
    c.join_by.ensures
