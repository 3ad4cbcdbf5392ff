-- What a search of a list in the caller's memory reads, whatever the list is.
use Rattle.std.specs.Prelude.{◌≡◌, ℕ, ◌+◌, ◌-◌, ◌<◌, ◌≤◌, List, length, take, slice_get, Some}
use Rattle.ipnetwork_family.specs.Bits.{SharesBits}
use Rattle.ipnetwork_family.specs.Network.{Network, Member, block_at}
use Rattle.ipnetwork_c.specs.Held.{PrefixFits}

-- the last of the first i networks, if any, begins at or before x, and the next network, if any, begins after x: if the
-- addresses ascend, i networks begin at or before x
pub record StandsAt (networks : List Network) (x i : ℕ) : Type 0 where
  pub within : i ≤ length networks
  pub last : (n : Network) → 0 < i → slice_get networks (i - 1) ≡ Some n → n.address ≤ x
  pub next : (n : Network) → slice_get networks i ≡ Some n → x < n.address

-- the last of the first i networks, if any, has a prefix length that fits
abbrev pub LastFits : ℕ → List Network → ℕ → Type 0
LastFits w networks i = (n : Network) → 0 < i → slice_get networks (i - 1) ≡ Some n → PrefixFits w n

-- the network at place k has a prefix length that fits, and does not have the address x
pub record PassesBy (w : ℕ) (networks : List Network) (x k : ℕ) (n : Network) : Type 0 where
  pub here : slice_get networks k ≡ Some n
  pub fits : PrefixFits w n
  pub has_not : ¬ (Member w n x)

-- a search for the longest block with x reaches the last of the first i networks. It starts at the last network that
-- begins at or before x; from one that does not have x, it goes to the last before it that begins no later than the
-- smallest block with both its address and x
pub data ComesTo (w : ℕ) (networks : List Network) (x : ℕ) : ℕ → Type 0 where
  First : (i : ℕ) → StandsAt networks x i → ComesTo w networks x i
  On : (k shared i : ℕ) (n : Network) → ComesTo w networks x (k + 1) → PassesBy w networks x k n
      → SharesBits w n.address x shared → StandsAt (take k networks) (block_at w x shared).address i
      → ComesTo w networks x i
