use Rattle.cidr_merge.proofs.exports.put_frame.Goals as goal

pub returns-in-Csv-Head : goal.returns-in-Csv-Head
returns-in-Csv-Head g c = rw (c.in-Csv-Head.is-0, c.in-Csv-Head.is-1) c.put_all.ensures

pub returns-in-Nft-Head : goal.returns-in-Nft-Head
returns-in-Nft-Head g c =
    rw (c.in-Nft-Head.is-0, c.in-Nft-Head.is-1, ← c.names.view_is, ← c.as_str-table.ensures.value)
    c.put_all-in-Nft-Head.ensures

pub returns-in-Nft-Opening : goal.returns-in-Nft-Opening
returns-in-Nft-Opening g c =
    rw (
      c.in-Nft-Opening.is-0,
      c.in-Nft-Opening.is-1,
      ← c.names.view_is,
      ← c.family_word-word.ensures,
      ← c.as_str-table.ensures.value,
      ← c.as_str-set.ensures.value,
    ) c.put_all-in-Nft-Opening.ensures
