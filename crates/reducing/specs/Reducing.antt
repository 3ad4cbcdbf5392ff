-- Lists of blocks of w-bit addresses in which neighbours are joined until there are few blocks.
use Rattle.std.specs.Prelude.{◌≡◌, ℕ, ◌+◌, ◌<◌, ◌≤◌, ◌⊎◌, List, [], ◌∷◌, ◌++◌, length}
use Rattle.ipnetwork_family.specs.Network.{Network}
use Rattle.reducing.specs.Joining.{joined, others}

-- each block of the list and the next one are related
abbrev pub AllNeighbours : (Network → Network → Type 0) → List Network → Type 0
AllNeighbours Related [] = Unit {0}
AllNeighbours Related (a ∷ []) = Unit {0}
AllNeighbours Related (a ∷ b ∷ behind) = Related a b × AllNeighbours Related (b ∷ behind)

-- next is the list with one pair of neighbours joined, which has k others: no pair has fewer, and each pair before it
-- has more
pub record Joins (w : ℕ) (list next : List Network) (k : ℕ) : Type 0 where
  pub before : List Network
  pub a : Network
  pub b : Network
  pub behind : List Network
  pub list_is : list ≡ before ++ a ∷ b ∷ behind
  pub next_is : next ≡ before ++ joined w a b ∷ behind
  pub others_are : k ≡ others w a b
  pub least : AllNeighbours (λ c d. k ≤ others w c d) list
  pub first : AllNeighbours (λ c d. k < others w c d) (before ++ a ∷ [])

-- the list xs becomes us, which has k others, by joins while there are more than `most` blocks
pub data Becomes (w most : ℕ) (xs : List Network) : List Network → ℕ → Type 0 where
  Same : Becomes w most xs xs 0
  Joined : {us next : List Network} {k n : ℕ} → Becomes w most xs us k → most < length us → Joins w us next n
      → Becomes w most xs next (k + n)

-- it becomes us, and there is no further join: at most `most` blocks are left, or one
pub record Reduces (w most : ℕ) (xs us : List Network) (k : ℕ) : Type 0 where
  pub becomes : Becomes w most xs us k
  pub done : (length us ≤ most) ⊎ (length us ≤ 1)
