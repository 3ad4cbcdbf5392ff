-- The state of a search in a list of networks, and its end.
use Rattle.std.specs.Prelude.{◌≡◌, ℕ, ◌-◌, ◌<◌, ◌≤◌, List, MatchOption, Option, slice_get, Some}
use Rattle.ipnetwork_family.specs.Network.{Network}
use Rattle.ipnetwork_c.specs.Lists.{FindsIn}
use Rattle.ipnetwork_c.specs.Searches.{StandsAt, LastFits}

-- the search for x ends at a network whose prefix length fits, or at no network
abbrev pub EndFits : ℕ → List Network → ℕ → Type 0
EndFits w networks x = (i : ℕ) × StandsAt networks x i × LastFits w networks i

-- the search for x ends at a network whose prefix length does not fit
abbrev pub EndDoesNotFit : ℕ → List Network → ℕ → Type 0
EndDoesNotFit w networks x = (i : ℕ) × StandsAt networks x i × ¬ (LastFits w networks i)

-- the byte says whether x is in the set of the networks; there is no byte if the search for x ends at a prefix length
-- that does not fit
abbrev pub SetAnswer : ℕ → List Network → ℕ → Option ℕ → Type 0
SetAnswer w networks x found = MatchOption found (EndDoesNotFit w networks x)
    (λ byte. EndFits w networks x × FindsIn w networks x byte)

-- the last of the first i networks, if any, begins at or before x
abbrev pub LastUpTo : List Network → ℕ → ℕ → Type 0
LastUpTo networks x i = (n : Network) → 0 < i → slice_get networks (i - 1) ≡ Some n → n.address ≤ x

-- the network after the first i, if any, begins after x
abbrev pub NextAfter : List Network → ℕ → ℕ → Type 0
NextAfter networks x i = (n : Network) → slice_get networks i ≡ Some n → x < n.address

-- the network before index `from` begins at or before x, and the network at `to` begins after x
pub record IsBetween (networks : List Network) (x from to : ℕ) : Type 0 where
  pub last : LastUpTo networks x from
  pub next : NextAfter networks x to
