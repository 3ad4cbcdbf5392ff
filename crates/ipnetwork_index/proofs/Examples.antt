-- The table of two entries with one block, over addresses of 3 bits: the value of the last entry counts.
use Rattle.ipnetwork_index.proofs.Words.{◌≡◌, ℕ, ◌++◌, List, [], ◌∷◌, length, refl, ap, subst, arith, MatchOption, FinMap, get, Contains, contains_head, contains_nil, Network, network_cmp, NoneHasBlock, IsLastValue, HasLastValues}
use Rattle.std.specs.Prelude.{None, Some, Option}
use Rattle.std.proofs.lemmas.List.{length-append}

abbrev net : ℕ → ℕ → Network
net address prefix = record { address = address; prefix = prefix }

abbrev entries : List (Network × ℕ)
entries = (net 5 2, 7) ∷ (net 4 2, 9) ∷ []

-- what a table says about the block of both entries
abbrev Told : Option ℕ → Type 0
Told found = MatchOption found (NoneHasBlock 3 (net 4 2) entries) (IsLastValue 3 (net 4 2) entries)

pub last_value : Told (Some 9)
last_value = record {
  before = (net 5 2, 7) ∷ [];
  network = net 4 2;
  behind = [];
  entries_are = refl;
  has_block = refl;
  is_last = λ entry c. absurd (contains_nil entry c);
}

pub no_earlier_value : ¬ (Told (Some 7))
no_earlier_value h = go h.before h.network h.behind h.entries_are h.is_last
  where
    go : (before : List (Network × ℕ)) (n : Network) (behind : List (Network × ℕ))
        → (net 5 2, 7) ∷ (net 4 2, 9) ∷ [] ≡ before ++ (n, 7) ∷ behind → NoneHasBlock 3 (net 4 2) behind → ⊥
    go [] n behind is none =
        let rest : (net 4 2, 9) ∷ [] ≡ behind = cc in
        none (net 4 2, 9) (subst (λ (l : List (Network × ℕ)). Contains l (net 4 2, 9)) rest
        (contains_head (net 4 2, 9) [])) refl
    go (x ∷ []) n behind is none =
        let same : (net 4 2, 9) ≡ (n, 7) = cc in
        let value : 9 ≡ 7 = ap (λ (e : Network × ℕ). e.1) same in omega (arith, value)
    go (x ∷ y ∷ more) n behind is none = omega (arith, ap length is, length-append more ((n, 7) ∷ behind))

pub not_left_out : ¬ (Told None)
not_left_out none = none (net 5 2, 7) (contains_head (net 5 2, 7) ((net 4 2, 9) ∷ [])) refl

pub seven_is_not_kept : (t : FinMap network_cmp ℕ) → HasLastValues 3 entries t → ¬ (get t (net 4 2) ≡ Some 7)
seven_is_not_kept t has is = no_earlier_value (subst Told is (has (net 4 2)))

pub block_is_a_key : (t : FinMap network_cmp ℕ) → HasLastValues 3 entries t → ¬ (get t (net 4 2) ≡ None)
block_is_a_key t has is = not_left_out (subst Told is (has (net 4 2)))
