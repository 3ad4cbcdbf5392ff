-- The addresses that an iterator over one family passes, seen as addresses of either.
use Rattle.std.proofs.Common.{◌≡◌, ℕ, zero, suc, List, [], ◌∷◌, map, option_map, drop, slice_get, Option, refl, sym, ap, ◌∙◌}
use Rattle.std.proofs.lemmas.List.{drop-map}

module _ {A B : Type 0} (f : A → B) where
  -- what is left after some
  pub left_after : (k : ℕ) (old new : List A) → new ≡ drop k old → map f new ≡ drop k (map f old)
  left_after k old new e = ap (map f) e ∙ sym (drop-map f k old)

  one_of : (k : ℕ) (old : List A) → option_map f (slice_get old k) ≡ slice_get (map f old) k
  one_of k [] = refl
  one_of zero (x ∷ xs) = refl
  one_of (suc k) (x ∷ xs) = one_of k xs

  -- the one that comes after some
  pub one_after : (k : ℕ) (old : List A) (found : Option A) → found ≡ slice_get old k
      → option_map f found ≡ slice_get (map f old) k
  one_after k old found e = ap (option_map f) e ∙ one_of k old
