use Rattle.cidr_filter.proofs.Known.{inr, refl}
use Rattle.cidr_filter.proofs.run.filter.Goals as goal

pub returns-in_default : goal.returns-in_default
returns-in_default g c = inr (
  (refl, c.refuse_memory.ensures.status),
  inr
      (c.args.errors.now, c.refuse_memory.ensures.told),
)

pub returns-in_default-inputs_of : goal.returns-in_default-inputs_of
returns-in_default-inputs_of g c =
    inr (
      (refl, c.refuse_memory-in_default-inputs_of.ensures.status),
      inr (c.args.errors.now, c.refuse_memory-in_default-inputs_of.ensures.told),
    )
