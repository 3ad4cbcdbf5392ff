-- The ranges of a table, while they are made.
use Rattle.std.specs.Prelude.{◌≡◌, ℕ, ◌+◌, ◌*◌, ◌^◌, ◌<◌, ◌≤◌, List, drop, get_or, length, map}
use Rattle.std.specs.List.{All, Contains}
use Rattle.ipnetwork_family.specs.Network.{Network, IsNetwork, low, high}
use Rattle.ipnetwork_c.specs.Ranges.{EndsAt, IsCut, IsLongestAt}

-- the addresses of the networks that a list holds
abbrev pub firsts : {C : Type 0} → (C → Network) → List C → List ℕ
firsts held list = map (λ c. (held c).address) list

-- the value holds a single address: its prefix length is w
pub record IsAlone {C : Type 0} (w : ℕ) (holds : C → Type 0) (held : C → Network) (c : C) : Type 0 where
  pub holds_it : holds c
  pub prefix : (held c).prefix ≡ w

-- the values hold the first address of a network's set and, if it exists, the address after its last
pub record AreEndsOf {C : Type 0} (w : ℕ) (holds : C → Type 0) (held : C → Network) (n : Network)
    (front : List C) : Type 0 where
  pub network : IsNetwork w n
  pub few : length front ≤ 2
  pub alone : All (IsAlone w holds held) front
  pub begun : Contains (firsts held front) (low w n)
  pub ended : high w n + 1 < 2 ^ w → Contains (firsts held front) (high w n + 1)
  pub only : (a : ℕ) → Contains (firsts held front) a → EndsAt w n a

-- the values hold these ends of each of the first `rows` networks
pub record AreCutsOf {C : Type 0} (w : ℕ) (holds : C → Type 0) (held : C → Network) (networks : List Network) (rows : ℕ)
    (front : List C) : Type 0 where
  pub network : (k : ℕ) (d : Network) → k < rows → IsNetwork w (get_or networks k d)
  pub few : length front ≤ 2 * rows
  pub alone : All (IsAlone w holds held) front
  pub begun : (k : ℕ) (d : Network) → k < rows → Contains (firsts held front) (low w (get_or networks k d))
  pub ended : (k : ℕ) (d : Network) → k < rows → high w (get_or networks k d) + 1 < 2 ^ w
      → Contains (firsts held front) (high w (get_or networks k d) + 1)
  pub only : (a : ℕ) → Contains (firsts held front) a → IsCut w networks a

-- the list was written up to index `count`, and is unchanged from there on
pub record IsWrittenUpTo {C : Type 0} (before after : List C) (count : ℕ) : Type 0 where
  pub size : length after ≡ length before
  pub within : count ≤ length after
  pub rest : drop count after ≡ drop count before

-- each of the first `rows` rows has the place of the longest network that has the row's first address
abbrev pub ArePlacesUpTo : ℕ → List Network → List ℕ → List ℕ → ℕ → Type 0
ArePlacesUpTo w networks firsts places rows = (k : ℕ) → k < rows
    → IsLongestAt w networks (get_or firsts k 0) (get_or places k 0)
