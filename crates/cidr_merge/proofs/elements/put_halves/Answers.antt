use Rattle.cidr_merge.proofs.elements.put_halves.Goals as goal

pub returns : goal.returns
returns g c =
    rw (← c.family_word-word.ensures, ← c.as_str-set.ensures.value) (
    rw (← c.half_blocks.ensures.first, ← c.half_blocks.ensures.second) c.put_all.ensures
    )
