-- The places of networks that are sought, by the numbers of their ends.
use Rattle.std.specs.Prelude.{◌≡◌, ◌<◌, ◌≤◌, ◌*◌, ◌^◌, ℕ, Bool, true, false, List, length, slice_index_or}
use Rattle.std.specs.List.{All, Contains}
use Rattle.std.specs.List.Sorted.{IsNonDecreasing, IsNonDecreasingBy}
use Rattle.ipnetwork.specs.IpNetworks.{ip_low, ip_high}
use Rattle.ipnetwork_addr.specs.declared.ip.IpAddr.{IpAddr}
use Rattle.ipnetwork_addr.specs.declared.ip.IpAddr.TheVariants.{V4, V6}
use Rattle.lists.specs.declared.entry.Entry.{Entry}
use Rattle.lists.specs.declared.entry.Entry.TheVariants.{Network}
use Rattle.cidr_merge.specs.Finds.{do_meet}
use Rattle.cidr_merge.specs.Overlaps.{ends_of}
use Rattle.cidr_merge.specs.declared.query.Query.{Query}
use Rattle.cidr_merge.specs.declared.sought.Sought.{Sought}
use Rattle.cidr_merge.specs.declared.sought_places.Places.{Places}

-- the number of an address, with the bits of an IPv4 address first, and whether it is an IPv6 address
abbrev pub number_of : IpAddr → ℕ
number_of (V4 address) = address * 2 ^ 96
number_of (V6 address) = address

abbrev pub is_v6 : IpAddr → Bool
is_v6 (V4 address) = false
is_v6 (V6 address) = true

-- the numbers of a network's ends, and its place among those that are sought
abbrev pub Place : Type 0
Place = ℕ × ℕ × ℕ

abbrev pub place_of : Sought → ℕ → Place
place_of one at = (number_of (ip_low one.network), number_of (ip_high one.network), at)

-- the numbers of the first addresses of places ascend
abbrev pub AreAscending : List Place → Type 0
AreAscending = IsNonDecreasingBy (λ place. place.0)

-- of the first places each has a number, not above its index, from which on the places before it end no later than it
pub record AreOuters (places : List Place) (outers : List ℕ) : Type 0 where
  pub up_to : (at d : ℕ) → at < length outers → slice_index_or outers at d ≤ at
  pub skips : (at between d : ℕ) (e : Place) → at < length outers → slice_index_or outers at d ≤ between → between < at
      → (slice_index_or places between e).1 ≤ (slice_index_or places at e).1

-- the places of a family ascend, among which is that of each network of this family
pub record ArePlacesOf (of_v6 : Bool) (sought : List Sought) (places : Places) : Type 0 where
  pub ascend : AreAscending places.sorted.items
  pub few : length places.sorted.items ≤ length sought
  pub within : All (λ place. place.2 < length sought) places.sorted.items
  pub each : (at : ℕ) (d : Sought) → at < length sought → is_v6 (ip_low (slice_index_or sought at d).network) ≡ of_v6
      → Contains places.sorted.items (place_of (slice_index_or sought at d) at)
  pub many : length places.outers.items ≡ length places.sorted.items
  pub outers : AreOuters places.sorted.items places.outers.items

-- those of a query are
pub record AreQuery (query : Query) : Type 0 where
  pub v4 : ArePlacesOf false query.sought.items query.v4
  pub v6 : ArePlacesOf true query.sought.items query.v6

-- these places ascend, and among them are those of all networks sought that share an address with the entry
pub record AreFound (entry : Entry) (sought : List Sought) (places : List ℕ) : Type 0 where
  pub ascend : IsNonDecreasing places
  pub within : All (λ place. place < length sought) places
  pub each : (at : ℕ) (d : Sought) → at < length sought
      → do_meet (ends_of entry) (ends_of (Network (slice_index_or sought at d).network)) ≡ true → Contains places at
