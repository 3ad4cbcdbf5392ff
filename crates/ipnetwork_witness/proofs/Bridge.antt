-- Two grammars for addresses of the same width, of either family: one names numbers, the other spells their digits in a
-- base. What follows from both.
use Rattle.ipnetwork_witness.proofs.Words.{◌≡◌, ◌↔◌, ℕ, ◌^◌, ◌<◌, List, length, sym, ap, ◌∙◌, subst, number_lt, number_from_digits, AllBelowBase, digits_in}
use Rattle.ipnetwork_witness.proofs.Digits.{number-digits_in, digits_in-number}

-- each text of one grammar is a text of the other, and its number has these digits
pub record Bridge (base count : ℕ) (Names : List ℕ → ℕ → Type 0) (Spells : List ℕ → List ℕ → Type 0) : Type 0 where
  pub some : 0 < base
  pub to_spelled : (text : List ℕ) (n : ℕ) → Names text n → (ds : List ℕ) × Spells text ds
      × (n ≡ number_from_digits base ds)
  pub to_named : (text ds : List ℕ) → Spells text ds → Names text (number_from_digits base ds)
  pub fits : (text ds : List ℕ) → Spells text ds → (length ds ≡ count) × AllBelowBase base ds

module _ (base count : ℕ) (Names : List ℕ → ℕ → Type 0) (Spells : List ℕ → List ℕ → Type 0)
    (b : Bridge base count Names Spells) where
  pub number_fits : (text ds : List ℕ) → Spells text ds → number_from_digits base ds < base ^ count
  number_fits text ds h =
      let fit = b.fits text ds h in
      subst (λ n. number_from_digits base ds < base ^ n) fit.0 (number_lt base ds fit.1)

  pub name_fits : (text : List ℕ) (n : ℕ) → Names text n → n < base ^ count
  name_fits text n h =
      let (ds, spelled, value) = b.to_spelled text n h in
      subst (λ m. m < base ^ count) (sym value) (number_fits text ds spelled)

  pub digits_back : (text ds : List ℕ) → Spells text ds → digits_in base count (number_from_digits base ds) ≡ ds
  digits_back text ds h = let fit = b.fits text ds h in digits_in-number base count ds fit.0 fit.1

  pub same_texts : (text : List ℕ) (n : ℕ) → n < base ^ count → Names text n ↔ Spells text (digits_in base count n)
  same_texts text n small = (
    λ h.
        let (ds, spelled, value) = b.to_spelled text n h in
        subst (Spells text) (sym (ap (digits_in base count) value ∙ digits_back text ds spelled)) spelled,
    λ h. subst (Names text) (sym (number-digits_in base count n b.some small))
        (b.to_named text (digits_in base count n) h),
  )
