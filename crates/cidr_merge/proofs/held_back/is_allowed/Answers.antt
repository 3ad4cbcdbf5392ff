use Rattle.cidr_merge.proofs.Known.{inl, inr, refl}
use Rattle.cidr_merge.proofs.held_back.is_allowed.Goals as goal

pub returns-in-Any : goal.returns-in-Any
returns-in-Any g c = inl (c.in-Any.is, refl)

pub returns-in_default : goal.returns-in_default
returns-in_default g c = inr c.is_within.ensures
