use Rattle.cidr_join.proofs.Known.{refl}
use Rattle.cidr_join.proofs.run.join_of.Goals as goal

pub returns : goal.returns
returns c =
    rw (
      c.area_of.ensures,
      c.is_given.ensures,
      c.is_given-2.ensures,
      c.is_given-3.ensures,
      c.bad_in.ensures,
      c.value_of.ensures,
      c.is_given-4.ensures,
    ) refl
