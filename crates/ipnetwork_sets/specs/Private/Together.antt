-- The union of two sets, run by run.
use Rattle.std.specs.Prelude.{◌≡◌, ℕ, ◌+◌, ◌^◌, ◌<◌, ◌≤◌, ◌⊎◌, ◌↔◌, List, [], ◌∷◌, Option, None, Some}
use Rattle.ipnetwork_family.specs.Network.{Network}
use Rattle.ipnetwork_blocks.specs.Ranges.{FromTo}
use Rattle.ipnetwork_sets.specs.Sets.{IsAddressSet, InEither}

-- the blocks left of the current run, if there is one
abbrev pub at_hand : Option (List Network) → List Network
at_hand None = []
at_hand (Some blocks) = blocks

-- `b` is the first block of one list and begins no later than that of the other; without it, the lists are `others` and
-- `rest`
pub record IsFirst (first second : List Network) (b : Network) (others rest : List Network) : Type 0 where
  pub one : ((first ≡ b ∷ others) × (second ≡ rest)) ⊎ ((first ≡ others) × (second ≡ b ∷ rest))
  pub lowest : (c : Network) (more : List Network) → (first ≡ c ∷ more) ⊎ (second ≡ c ∷ more) → b.address ≤ c.address

-- the list is empty, or there is a gap between the address `last` and its first block
abbrev pub EndsAt : ℕ → ℕ → List Network → Type 0
EndsAt w last [] = Unit {0}
EndsAt w last (b ∷ bs) = last + 1 < b.address

-- `last` is the greater of two numbers
pub record IsLater (a b last : ℕ) : Type 0 where
  pub first : a ≤ last
  pub second : b ≤ last
  pub one : (last ≡ a) ⊎ (last ≡ b)

-- the addresses of the union are those from `start` to `last` and those left of both sets, none of which is before
-- `start`
pub record IsGrowing (w : ℕ) (first second : List Network) (start last : ℕ) (others rest : List Network) : Type 0 where
  pub ordered : start ≤ last
  pub fits : last < 2 ^ w
  pub others_are_set : IsAddressSet w others
  pub rest_is_set : IsAddressSet w rest
  pub parts : (x : ℕ) → InEither w first second x ↔ (FromTo start last x ⊎ InEither w others rest x)
  pub from : (x : ℕ) → InEither w others rest x → start ≤ x

-- the first run of the union goes from `start` to `last`: there is a gap between it and the addresses left of both sets
pub record IsRun (w : ℕ) (first second : List Network) (start last : ℕ) (others rest : List Network) : Type 0 where
  pub grown : IsGrowing w first second start last others rest
  pub behind : (x : ℕ) → InEither w others rest x → last + 1 < x
