-- What follows from the high half of an IPv6 number, its first 64 bits.
use Rattle.std.specs.Prelude.{◌≡◌, ◌↔◌, ℕ, ◌/◌, ◌^◌, ◌≤◌, Bool, IsTrue}
use Rattle.std.specs.Int.{from_bool}
use Rattle.ipnetwork_family.specs.Network.{Network, Member}
use Rattle.ipnetwork_c.specs.Held.{PrefixFits}

-- `half` is the high half of x
abbrev pub OfHalf : ℕ → ℕ → Type 0
OfHalf x half = x / 2 ^ 64 ≡ half

-- the network begins at or before x, its prefix length fits, and the byte is 1 if x is a member, else 0
pub record Tells (n : Network) (x byte : ℕ) : Type 0 where
  pub begins : n.address ≤ x
  pub fits : PrefixFits 128 n
  pub has : Bool
  pub told : IsTrue has ↔ Member 128 n x
  pub flag : byte ≡ from_bool has
