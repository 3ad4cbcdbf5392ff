-- Lines of how much is used, from the counts that the code has.
use Rattle.cidr_merge.proofs.Words.{◌≡◌, ◌≤◌, ◌<◌, ℕ, Bool, true, false, ◌&&◌, List, ◌∷◌, ap, subst, arith, refl, suc, sym, length, map, get_or, get_or-map, length-map, flat_map, block_size, Family, Names, Network}
use Rattle.std.specs.List.{All}
use Rattle.std.proofs.lemmas.List.Folds.{flat_map-map}
use Rattle.allotting.specs.Usage.{AreUsed}
use Rattle.cidr_merge.specs.Usages.{AreUsageLines, usage_line}

-- what holds of each value of a list holds of the first and of the others
pub first_within : {X : Type 0} (left others : List X) (x : X) (P : X → Type 0) → All P left → left ≡ x ∷ others → P x
first_within {X} left others x P h e =
    subst (λ (l : List X). (k : ℕ) (d : X) → k < length l → P (get_or l k d)) e h 0 x (omega arith)

pub rest_within : {X : Type 0} (left others : List X) (x : X) (P : X → Type 0) → All P left → left ≡ x ∷ others
    → All P others
rest_within {X} left others x P h e k d l =
    subst (λ (list : List X). (k : ℕ) (d : X) → k < length list → P (get_or list k d)) e h (suc k) d (omega (arith, l))

-- what holds of each value of a mapped list
all_mapped : {X Y : Type 0} (f : X → Y) (P : Y → Type 0) (xs : List X) → All P (map f xs) → All (λ x. P (f x)) xs
all_mapped f P xs h k d l = subst P (get_or-map f xs k d (f d) l) (h k (f d) (omega (arith, l, length-map xs f)))

module _ {C : Type 0} (number : C → ℕ) (w : ℕ) (pools used : List Network) (usage : List (Network × C))
    (are_used : AreUsed w pools used (map (λ one. (one.0, number one.1)) usage)) where
  -- no block has more used addresses than addresses
  pub counts_within : All (λ one. number one.1 ≤ block_size w one.0.prefix) usage
  counts_within = all_mapped (λ (one : Network × C). (one.0, number one.1))
      (λ (one : Network × ℕ). one.1 ≤ block_size w one.0.prefix) usage are_used.within

  -- the lines of their numbers
  pub usage_lines : (names : Names) (family : Family w)
      → AreUsageLines names family pools used (flat_map (λ one. usage_line names family (one.0, number one.1)) usage)
  usage_lines names family = (
    map (λ one. (one.0, number one.1)) usage,
    are_used,
    sym (flat_map-map (usage_line names family) (λ (one : Network × C). (one.0, number one.1)) usage),
  )

-- nothing is refused, since nothing lacks or that is allowed
pub none_lacks : (lacks wrong : Bool) → lacks ≡ false → (lacks && wrong) ≡ false
none_lacks lacks wrong e = ap (λ b. b && wrong) e

pub is_allowed : (lacks wrong : Bool) → wrong ≡ false → (lacks && wrong) ≡ false
is_allowed true wrong e = e
is_allowed false wrong e = refl
