use Rattle.cidr_join.proofs.Known.{◌∙◌, inl, inr, refl, sym, is_given, by_tally, by_lines}
use Rattle.cidr_join.specs.Options as own
use Rattle.cidr_join.proofs.run.join_by.Goals as goal

pub returns-in_default : goal.returns-in_default
returns-in_default g c = inl ((refl, c.refuse_memory.ensures.status), (c.args.errors.now, c.refuse_memory.ensures.told))

pub returns-then-is_given : goal.returns-then-is_given
returns-then-is_given g c =
    by_tally _ _ _ _ (is_given c.args.items.now own.tally) (sym c.is_given.ensures ∙ c.if-is_given.true)
    (rw (c.requires, c.join_of-join.ensures) at c.tally_logs.ensures)

pub returns : goal.returns
returns g c =
    inr (by_lines _ _ _ _ (is_given c.args.items.now own.tally) (sym c.is_given.ensures ∙ c.if-is_given.false)
    (rw (c.requires, c.join_of-join.ensures) at c.join_logs.ensures))
