use Rattle.ipnetwork_family.proofs.Known.{◌≡◌, ℕ, ◌≤◌, ◌==◌, [], true, get_or, refl, ap, ◌∙◌, arith, pointwise, agree_below_at, Decides-eqb, slice_eq-Decides, segments_of, MASKS, mask_of}
use Rattle.ipnetwork_family.proofs.mask_table.mask_segments.Goals as goal

-- each row of the table, by computing all of them
row : (p at : ℕ) → p ≤ 128 → at ≡ p → get_or MASKS at [] ≡ segments_of (mask_of 128 p)
row p at below is =
    ap (λ b. get_or MASKS b []) is
    ∙ (slice_eq-Decides Decides-eqb (get_or MASKS p []) (segments_of (mask_of 128 p)) _ refl).0
    (agree_below_at (λ b. pointwise ◌==◌ (get_or MASKS b []) (segments_of (mask_of 128 b))) (λ _.
    true) 129 p refl (omega arith))

pub returns : goal.returns
returns c = row c.args.prefix c.from.result c.requires c.from.ensures
