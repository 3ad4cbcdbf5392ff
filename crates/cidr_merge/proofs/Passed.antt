-- What a search passes over.
use Rattle.cidr_merge.proofs.Words.{◌≡◌, ◌+◌, ◌<◌, ◌≤◌, ◌∙◌, ℕ, zero, suc, Bool, true, false, List, [], ◌∷◌, ◌++◌, refl, sym, ap, arith, inl, inr, length, map, drop, get_or, ◌⊎◌, Contains, flat_map, IsNonDecreasing, drop-nil, cases_lt, get_or_default, Entry, do_meet, match_lines, ends_of, sought_as, AreFound, Sought}
use Rattle.lists.specs.declared.entry.Entry.TheVariants as entries

-- whether an entry meets a network that is sought
abbrev meets : Entry → Sought → Bool
meets entry one = do_meet (ends_of entry) (ends_of (entries.Network one.network))

-- no place of a network that the entry meets is between the places up to one and those from the next on
pub passed_over : (entry : Entry) (sought : List Sought) (places : List ℕ) (at i j : ℕ)
    → AreFound entry sought places → ((k d : ℕ) → k < at → get_or places k d < i)
    → ((k d : ℕ) → at ≤ k → k < length places → j ≤ get_or places k d)
    → (p : ℕ) (d : Sought) → i ≤ p → p < j → p < length sought → meets entry (get_or sought p d) ≡ false
passed_over entry sought places at i j are before behind p d low less within =
    by (meets entry (get_or sought p d)) refl where
      by : (b : Bool) → meets entry (get_or sought p d) ≡ b → meets entry (get_or sought p d) ≡ false
      by false e = e
      by true e = at_last (are.each p d within e) where
        at_last : Contains places p → meets entry (get_or sought p d) ≡ false
        at_last c = there (cases_lt c.0 at) where
          there : ((c.0 < at) ⊎ (at ≤ c.0)) → meets entry (get_or sought p d) ≡ false
          there (inl sooner) = let b = before c.0 p sooner in let is = c.2 in absurd (omega (arith, b, is, low))
          there (inr later) =
              let b = behind c.0 p later c.1 in let is = c.2 in absurd (omega (arith, b, is, less))

-- the places after one are not before it
pub not_sooner : (places : List ℕ) (at : ℕ) → IsNonDecreasing places → at < length places
    → (k d : ℕ) → at ≤ k → k < length places → get_or places at 0 ≤ get_or places k d
not_sooner places at up within k d l m =
    let rises = up at k d l m in
    let same = get_or_default places at d 0 within in omega (arith, rises, same)

-- those up to it are before the next
pub before_more : (places : List ℕ) (at next : ℕ) → at < length places
    → ((k d : ℕ) → k < at → get_or places k d < next) → next ≤ get_or places at 0
    → (k d : ℕ) → k < at + 1 → get_or places k d < get_or places at 0 + 1
before_more places at next within before l k d less = by (cases_lt k at) where
  by : ((k < at) ⊎ (at ≤ k)) → get_or places k d < get_or places at 0 + 1
  by (inl sooner) = let b = before k d sooner in omega (arith, b, l)
  by (inr later) =
      let is : k ≡ at = omega (arith, later, less) in
      let same = ap (λ (n : ℕ). get_or places n d) is ∙ get_or_default places at d 0 within in omega (arith, same)

-- the elements between two places contribute nothing
pub skipped : {X Y : Type 0} (f : X → List Y) (xs : List X) (i j : ℕ) → i ≤ j
    → ((p : ℕ) (d : X) → i ≤ p → p < j → p < length xs → f (get_or xs p d) ≡ [])
    → flat_map f (drop i xs) ≡ flat_map f (drop j xs)
skipped f [] i j l none = ap (flat_map f) (drop-nil i ∙ sym (drop-nil j))
skipped f (x ∷ xs) zero zero l none = refl
skipped f (x ∷ xs) zero (suc j) l none =
    ap (λ ys. ys ++ flat_map f xs) (none 0 x (omega arith) (omega arith) (omega arith))
    ∙ skipped f xs zero j (omega arith)
    (λ p d a b c. none (suc p) d (omega arith) (omega (arith, b)) (omega (arith, c)))
skipped f (x ∷ xs) (suc i) zero l none = absurd (omega (arith, l))
skipped f (x ∷ xs) (suc i) (suc j) l none =
    skipped f xs i j (omega (arith, l))
    (λ p d a b c. none (suc p) d (omega (arith, a)) (omega (arith, b)) (omega (arith, c)))

-- an entry that does not meet a network has no line for it
pub unmatched : (name : List ℕ) (number : ℕ) (line : List ℕ) (entry : Entry) (one : Sought)
    → meets entry one ≡ false → match_lines name number line entry (sought_as one) ≡ []
unmatched name number line entry one e = rw e refl

pub of_map : {X Y Z : Type 0} (f : Y → List Z) (g : X → Y) (xs : List X)
    → flat_map f (map g xs) ≡ flat_map (λ x. f (g x)) xs
of_map f g [] = refl
of_map f g (x ∷ xs) = ap (λ ys. f (g x) ++ ys) (of_map f g xs)
