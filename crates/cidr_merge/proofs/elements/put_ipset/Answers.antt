use Rattle.cidr_merge.proofs.Known.{ne_eqb}
use Rattle.cidr_merge.proofs.elements.put_ipset.Goals as goal

pub returns : goal.returns
returns g c =
    rw (
      ← c.canonical.ensures.bytes,
      ← c.as_str-2.ensures.value,
      ← c.as_str.ensures.value,
      ← c.family_word.ensures,
      ← c.prefix.ensures.made,
      ne_eqb c.prefix.result 0 c.if-prefix-eq0.false,
    ) c.put_all.ensures
