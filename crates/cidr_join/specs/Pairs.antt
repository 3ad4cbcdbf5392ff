-- Two addresses at the front of a line.
use Rattle.std.specs.Prelude.{ℕ, Bool, true, false, Option, None, Some}
use Rattle.ipnetwork_addr.specs.declared.ip.IpAddr.{IpAddr}
use Rattle.ipnetwork_addr.specs.declared.ip.IpAddr.TheVariants.{V4, V6}
use Rattle.lists.specs.Entries.{IsRange}
use Rattle.lists.specs.Masks.{IsMask}
use Rattle.cidr_join.specs.declared.pair.Pair.{Pair}

-- both addresses, if there are both
abbrev pub two_of : Option IpAddr → Option IpAddr → Option Pair
two_of None second = None
two_of (Some first) None = None
two_of (Some first) (Some second) = Some (record { first = first; second = second })

-- the addresses are of one family
abbrev pub is_one_family : IpAddr → IpAddr → Bool
is_one_family (V4 first) (V4 second) = true
is_one_family (V4 first) (V6 second) = false
is_one_family (V6 first) (V4 second) = false
is_one_family (V6 first) (V6 second) = true

abbrev pub are_one_family : Pair → Bool
are_one_family pair = is_one_family pair.first pair.second

-- there are two addresses, and they are of one family
abbrev pub are_alike : Option Pair → Bool
are_alike None = false
are_alike (Some pair) = are_one_family pair

-- there are two addresses, and they are the ends of no range: they are of two families, or the last is before the first
abbrev pub AreNoRange : Option Pair → Type 0
AreNoRange None = ⊥
AreNoRange (Some pair) = ¬ (IsRange pair.first pair.second)

-- the address is the mask of a prefix length of IPv4, 0 and 32 among them
abbrev pub IsMaskAddress : IpAddr → Type 0
IsMaskAddress (V4 number) = (p : ℕ) × IsMask number p
IsMaskAddress (V6 number) = ⊥

-- the addresses are probably a range: they are the ends of one, and the last is no mask
abbrev pub IsLikelyRange : Pair → Type 0
IsLikelyRange pair = IsRange pair.first pair.second × ¬ (IsMaskAddress pair.second)
