use Rattle.cidr_join.proofs.Known.{◌∙◌, inl, inr, refl, sym}
use Rattle.cidr_join.proofs.run.join.Goals as goal

pub returns-then-lacks_tally : goal.returns-then-lacks_tally
returns-then-lacks_tally g c = inr
    (inl (sym c.lacks_tally.ensures ∙ c.if-lacks_tally.true, (refl, c.refuse.ensures)))

pub returns-in-Ok : goal.returns-in-Ok
returns-in-Ok g c = elim c.join_files.ensures [
  | inl memory ↦ inl memory
  | inr h ↦ inr (inr (sym c.lacks_tally.ensures ∙ c.if-lacks_tally.false, h))
]

pub returns-in-Err : goal.returns-in-Err
returns-in-Err g c = inl ((refl, c.refuse_memory.ensures.status), (c.args.errors.now, c.refuse_memory.ensures.told))
