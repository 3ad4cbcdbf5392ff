-- An index, while it is made.
use Rattle.std.specs.Prelude.{◌≡◌, ℕ, ◌+◌, ◌-◌, ◌*◌, ◌^◌, ◌<◌, ◌≤◌, min, List, length, get_or, slice_get, Some}
use Rattle.ipnetwork_family.specs.Network.{Network}
use Rattle.ipnetwork_c.specs.Indexes.{address_at, BeginBefore}

-- the last of the first i networks, if any, begins before the number
pub record LastBefore (networks : List Network) (number i : ℕ) : Type 0 where
  pub within : i ≤ length networks
  pub last : (n : Network) → 0 < i → slice_get networks (i - 1) ≡ Some n → n.address < number

-- the index has the start of each part before `part`, except the first, and the starts of the others are at or after
-- `at`
pub record HasStarts (networks : List Network) (index : List ℕ) (shift part at : ℕ) : Type 0 where
  pub first : get_or index 0 0 ≡ shift
  pub starts : (one : ℕ) → 0 < one → one < part → (i : ℕ)
      × BeginBefore networks (address_at networks 0 + one * 2 ^ shift) i × (get_or index one 0 ≡ min i (2 ^ 32 - 1))
  pub at_least : LastBefore networks (address_at networks 0 + part * 2 ^ shift) at
