-- The pieces of a pool that are used, taken one block of the pool after another.
use Rattle.std.specs.Prelude.{◌≡◌, ℕ, ◌^◌, List, [], ◌∷◌, ◌++◌, ⊤, Option, None, Some, min}
use Rattle.std.specs.List.{All}
use Rattle.ipnetwork_family.specs.Network.{Network, Subnet}
use Rattle.ipnetwork_sets.specs.Counts.{total}

-- the current piece, if there is one, and those after it
abbrev pub at_hand : {X : Type 0} → (X → Network) → Option X → List Network → List Network
at_hand pair None pieces = []
at_hand pair (Some next) pieces = pair next ∷ pieces

-- the first of these pieces, if there is one, is not within the block
abbrev pub IsPast : ℕ → Network → List Network → Type 0
IsPast w block [] = ⊤
IsPast w block (piece ∷ pieces) = ¬ (Subnet w piece block)

-- the pieces before `after` are within the block and have this many addresses; the first of `after` is not within it
pub record TakesWithin (w : ℕ) (block : Network) (before after : List Network) (count : ℕ) : Type 0 where
  pub taken : List Network
  pub all : before ≡ taken ++ after
  pub within : All (λ piece. Subnet w piece block) taken
  pub past : IsPast w block after
  pub counted : count ≡ min (total w taken) (2 ^ 128)
