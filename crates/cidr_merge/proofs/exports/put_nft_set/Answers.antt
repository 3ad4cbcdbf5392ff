use Rattle.cidr_merge.proofs.exports.put_nft_set.Goals as goal

pub returns : goal.returns
returns g c =
    rw (
      ← c.names.view_is,
      ← c.looks_at.ensures,
      c.if-not-looks_at.false,
      ← c.family_word-word.ensures,
      ← c.address_type-addresses.ensures,
      ← c.as_str-table.ensures.value,
      ← c.as_str-set.ensures.value,
    ) c.put_all.ensures
