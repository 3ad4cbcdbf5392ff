-- What the reader of an IPv6 text finds, and what the text names.
use Rattle.ipnetwork_addr.proofs.Words.{◌≡◌, ◌≢◌, ℕ, ◌+◌, ◌-◌, ◌*◌, ◌^◌, ◌≤◌, List, [], length, Option, None, Some, refl, sym, ap, ◌∙◌, subst, inl, inr, arith, lit≤, pow-le-pow_right, none-some, same_Some, number_from_digits, NamesV6, NamesNoV6, IsTextPart, BeginsWithPart, NoPart, IsLeft, BeginsWithLeft, NoLeft, IsRight, EndsWithRight, NoRight}
use Rattle.ipnetwork_addr.proofs.Parts.{part_unique, no_part_of_nothing}
use Rattle.ipnetwork_addr.proofs.Ipv6Names.{Shape, Full, Gapped, shape_of, names_of, left_unique}
use Rattle.ipnetwork_addr.proofs.Shifts.{positive, number_with_gap}

-- ---- the right part

pub right_empty : (room : ℕ) (text : List ℕ) → text ≡ [] → EndsWithRight room text 0
right_empty room text e =
    record { groups = []; right = inr (refl, e); fits = omega arith; value = refl; small = positive room }

pub right_part : (room : ℕ) (text : List ℕ) (count number : ℕ) (end : Option (List ℕ))
    → BeginsWithPart room text count number end → end ≡ None → EndsWithRight room text number
right_part room text count number end h e =
    let most : (2 ^ 16) ^ count ≤ (2 ^ 16) ^ room = pow-le-pow_right {n = 65536} (lit≤ tt) h.fits in
    record {
      groups = h.groups;
      right = inl (subst (IsTextPart h.groups text) e h.part);
      fits = omega (arith, h.fits, h.counted);
      value = h.value;
      small = omega (arith, most, h.small);
    }

pub no_right_gap : (room : ℕ) (text : List ℕ) (count number : ℕ) (end : Option (List ℕ)) (next : List ℕ)
    → BeginsWithPart room text count number end → end ≡ Some next → NoRight room text
no_right_gap room text count number end next h e groups (inl part) =
    absurd (none-some next ((part_unique groups h.groups text None end part h.part).1 ∙ e))
no_right_gap room text count number end next h e groups (inr empty) =
    absurd (no_part_of_nothing h.groups end (subst (λ (t : List ℕ). IsTextPart h.groups t end) empty.1 h.part))

pub no_right_part : (room : ℕ) (text : List ℕ) → NoPart room text → text ≢ [] → NoRight room text
no_right_part room text none some groups (inl part) = none groups None part
no_right_part room text none some groups (inr empty) = absurd (some empty.1)

-- ---- the whole text

pub no_names : (text : List ℕ) → NoLeft text → NamesNoV6 text
no_names text none address h = go (shape_of text address h)
  where
    go : Shape text address → ⊥
    go (Full groups part eight value) = omega (arith, none groups None (inl part), eight)
    go (Gapped left right next l r room value) = omega (arith, none left (Some next) l, room)

module _ (text : List ℕ) (count number : ℕ) (end : Option (List ℕ)) (h : BeginsWithLeft text count number end) where
  pub names_full : end ≡ None → count ≡ 8 → NamesV6 text number
  names_full e eight = go h.left
    where
      go : IsLeft h.groups text end → NamesV6 text number
      go (inl part) = names_of text number
          (Full h.groups (subst (IsTextPart h.groups text) e part) (sym h.counted ∙ eight) h.value)
      go (inr none) = absurd (none-some none.next (sym e ∙ none.ends))

  pub too_few : end ≡ None → count ≢ 8 → NamesNoV6 text
  too_few e few address k = go (shape_of text address k)
    where
      go : Shape text address → ⊥
      go (Full groups part eight value) =
          few (h.counted ∙ ap length (left_unique h.groups groups text end None h.left (inl part)).0 ∙ eight)
      go (Gapped left right next l r room value) =
          none-some next (sym e ∙ (left_unique h.groups left text end (Some next) h.left l).1)

  pub gap_beside_eight : (next : List ℕ) → end ≡ Some next → count ≡ 8 → NamesNoV6 text
  gap_beside_eight next e eight address k = go (shape_of text address k)
    where
      go : Shape text address → ⊥
      go (Full groups part eight' value) =
          none-some next ((left_unique groups h.groups text None end (inl part) h.left).1 ∙ e)
      go (Gapped left right next' l r room value) =
          let same = (left_unique h.groups left text end (Some next') h.left l).0 in
          omega (arith, ap length same, h.counted, room, eight)

  pub no_names_right : (next : List ℕ) → end ≡ Some next → NoRight (7 - count) next → NamesNoV6 text
  no_names_right next e none address k = go (shape_of text address k)
    where
      go : Shape text address → ⊥
      go (Full groups part eight value) =
          none-some next ((left_unique groups h.groups text None end (inl part) h.left).1 ∙ e)
      go (Gapped left right next' l r room value) =
          let same = left_unique h.groups left text end (Some next') h.left l in
          let behind : next' ≡ next = same_Some next' next (sym same.1 ∙ e) in
          omega (arith, none right (subst (IsRight right) behind r), ap length same.0, h.counted, room)

  pub names_gap : (next : List ℕ) (high low : ℕ) → end ≡ Some next → count ≢ 8 → high ≡ number * (2 ^ 16) ^ (8 - count)
      → EndsWithRight (7 - count) next low → NamesV6 text (high + low)
  names_gap next high low e few is_high r =
      let room : length h.groups + length r.groups ≤ 7 = omega (arith, h.counted, h.fits, r.fits) in
      names_of text (high + low) (Gapped h.groups r.groups next (subst (IsLeft h.groups text) e h.left) r.right room
      (ap (λ m. m + low) (is_high ∙ rw (h.counted, h.value) refl) ∙ ap (λ m. number_from_digits (2 ^ 16)
      h.groups * (2 ^ 16) ^ (8 - length h.groups) + m) r.value ∙ sym (number_with_gap h.groups r.groups room)))
