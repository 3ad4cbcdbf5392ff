-- A list of blocks, and the lists that it is made of.
use Rattle.std.specs.Prelude.{◌≡◌, ℕ, ◌-◌, ◌^◌, ◌<◌, ◌⊎◌, min, List, [], ◌∷◌, ◌++◌, Option, MatchOption}
use Rattle.ipnetwork_family.specs.Network.{Network}
use Rattle.reducing.specs.Joining.{joined, others}
use Rattle.reducing.specs.declared.span.Span.{Span}

-- more than any number of others
unfoldable pub no_pair : ℕ
no_pair = 2 ^ 128 - 1

-- the least number of others of neighbours
abbrev pub least : ℕ → List Network → ℕ
least w [] = no_pair
least w (a ∷ []) = no_pair
least w (a ∷ b ∷ behind) = min (others w a b) (least w (b ∷ behind))

-- the list begins and ends with these blocks, and k is its least number of others
pub record IsSpanOf (w : ℕ) (list : List Network) (a b : Network) (k : ℕ) : Type 0 where
  pub behind : List Network
  pub before : List Network
  pub begins : list ≡ a ∷ behind
  pub ends : list ≡ before ++ b ∷ []
  pub least_is : k ≡ least w list

abbrev pub IsSpan : {X : Type 0} → ℕ → (X → Network) → List Network → Option (Span X) → Type 0
IsSpan w pair list span = MatchOption span (list ≡ []) (λ s. IsSpanOf w list (pair s.first) (pair s.last) s.least)

-- the first list ends with a block and the second begins with one, and k is their number of others
pub record DoMeet (w : ℕ) (front back : List Network) (k : ℕ) : Type 0 where
  pub before : List Network
  pub a : Network
  pub b : Network
  pub behind : List Network
  pub ends : front ≡ before ++ a ∷ []
  pub begins : back ≡ b ∷ behind
  pub others_are : k ≡ others w a b

-- the number of others of the pair where the second list follows the first, if there is such a pair
abbrev pub IsBetween : ℕ → List Network → List Network → ℕ → Type 0
IsBetween w front back k = DoMeet w front back k ⊎ ((k ≡ no_pair) × ((front ≡ []) ⊎ (back ≡ [])))

-- next is the list with one pair of neighbours joined, which has k others: those before it have more
pub record JoinsFirst (w : ℕ) (list next : List Network) (k : ℕ) : Type 0 where
  pub before : List Network
  pub a : Network
  pub b : Network
  pub behind : List Network
  pub list_is : list ≡ before ++ a ∷ b ∷ behind
  pub next_is : next ≡ before ++ joined w a b ∷ behind
  pub others_are : k ≡ others w a b
  pub first : k < least w (before ++ a ∷ [])
