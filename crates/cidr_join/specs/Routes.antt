-- The networks of a list with their values, and which of them contains a network.
use Rattle.std.specs.Prelude.{◌≡◌, ℕ, ◌&&◌, Bool, true, false, not, List, [], ◌∷◌, None, IsSome}
use Rattle.std.specs.List.{list_any}
use Rattle.std.specs.Option.{is_some}
use Rattle.std.specs.FinMap.{FinMap, get, insert, empty}
use Rattle.ipnetwork_addr.specs.declared.ip.IpAddr.TheVariants as addresses
use Rattle.ipnetwork.specs.declared.ip_network.IpNetwork.{IpNetwork}
use Rattle.ipnetwork.specs.declared.ip_network.IpNetwork.TheVariants as families
use Rattle.ipnetwork_blocks.specs.LeastList.{IsLeastList}
use Rattle.ipnetwork_blocks.specs.Ranges.{FromTo}
use Rattle.ipnetwork_family.specs.Network.{Network, HostBitsAreZero, block_of, network_cmp}
use Rattle.lists.specs.Entries.{IsRange}
use Rattle.lists.specs.declared.entry.Entry.{Entry}
use Rattle.lists.specs.declared.entry.Entry.TheVariants as entries
use Rattle.cidr_join.specs.Longest.{IsLongestOver, NoneHasAll}
use Rattle.cidr_join.specs.declared.line.Cause.TheVariants as causes
use Rattle.cidr_join.specs.declared.routes.Networks.{Networks}
use Rattle.cidr_join.specs.declared.routes.RouteFault.{RouteFault}
use Rattle.cidr_join.specs.declared.routes.RouteFault.TheVariants as faults
use Rattle.cidr_join.specs.declared.routes.Routes.{Routes}
use Rattle.cidr_join.specs.declared.value.Value.{Value}

-- values by block
abbrev pub Values : Type 0
Values = FinMap network_cmp Value

-- no network has a value
abbrev pub no_networks : Networks
no_networks = record { v4 = empty; v6 = empty }

-- the block of a network gets this value; unless later values win, it had none
abbrev pub SetsOne : ℕ → Bool → Values → Network → Value → Values → Type 0
SetsOne w last_wins before n value after = (after ≡ insert before (block_of w n) value)
    × (last_wins ≡ false → get before (block_of w n) ≡ None)

-- later values do not win, and the block of the network has a value
abbrev pub HasOne : ℕ → Bool → Values → Network → Type 0
HasOne w last_wins before n = (last_wins ≡ false) × IsSome (get before (block_of w n))

-- the blocks of these networks get this value
abbrev pub SetsAll : ℕ → Values → List Network → Value → Values → Type 0
SetsAll w before [] value after = after ≡ before
SetsAll w before (n ∷ networks) value after = SetsAll w (insert before (block_of w n) value) networks value after

-- the block of one of these networks has a value
abbrev pub one_has : ℕ → Values → List Network → Bool
one_has w values networks = list_any (λ n. is_some (get values (block_of w n))) networks

-- whether the range is refused: one block of its shortest list has a value, and later values do not win
abbrev pub RefusesRange : ℕ → Bool → Values → ℕ → ℕ → Bool → Type 0
RefusesRange w last_wins before first last refused = (blocks : List Network)
    × IsLeastList w (FromTo first last) blocks × (refused ≡ (not last_wins && one_has w before blocks))

abbrev pub RangeHasOne : ℕ → Bool → Values → ℕ → ℕ → Type 0
RangeHasOne w last_wins before first last = RefusesRange w last_wins before first last true

-- the range is not refused, and the blocks of its shortest list get this value
abbrev pub SetsRange : ℕ → Bool → Values → ℕ → ℕ → Value → Values → Type 0
SetsRange w last_wins before first last value after =
    (blocks : List Network) × IsLeastList w (FromTo first last) blocks
    × ((not last_wins && one_has w before blocks) ≡ false) × SetsAll w before blocks value after

-- the entry is a network, or a range whose addresses are of one family and in order
abbrev pub IsGoodEntry : Entry → Type 0
IsGoodEntry (entries.Network n) = Unit {0}
IsGoodEntry (entries.Range first last) = IsRange first last

-- the network of an entry, or each block of its range, gets this value
abbrev pub SetsEntry : Bool → Networks → Entry → Value → Networks → Type 0
SetsEntry last_wins before (entries.Network (families.V4 n)) value after =
    SetsOne 32 last_wins before.v4 n value after.v4 × (after.v6 ≡ before.v6)
SetsEntry last_wins before (entries.Network (families.V6 n)) value after =
    SetsOne 128 last_wins before.v6 n value after.v6 × (after.v4 ≡ before.v4)
SetsEntry last_wins before (entries.Range (addresses.V4 first) (addresses.V4 last)) value after =
    SetsRange 32 last_wins before.v4 first last value after.v4 × (after.v6 ≡ before.v6)
SetsEntry last_wins before (entries.Range (addresses.V4 first) (addresses.V6 last)) value after = ⊥
SetsEntry last_wins before (entries.Range (addresses.V6 first) (addresses.V4 last)) value after = ⊥
SetsEntry last_wins before (entries.Range (addresses.V6 first) (addresses.V6 last)) value after =
    SetsRange 128 last_wins before.v6 first last value after.v6 × (after.v4 ≡ before.v4)

-- the network of an entry, or a block of its range, has a value, and later values do not win
abbrev pub EntryHasOne : Bool → Networks → Entry → Type 0
EntryHasOne last_wins before (entries.Network (families.V4 n)) = HasOne 32 last_wins before.v4 n
EntryHasOne last_wins before (entries.Network (families.V6 n)) = HasOne 128 last_wins before.v6 n
EntryHasOne last_wins before (entries.Range (addresses.V4 first) (addresses.V4 last)) =
    RangeHasOne 32 last_wins before.v4 first last
EntryHasOne last_wins before (entries.Range (addresses.V4 first) (addresses.V6 last)) = ⊥
EntryHasOne last_wins before (entries.Range (addresses.V6 first) (addresses.V4 last)) = ⊥
EntryHasOne last_wins before (entries.Range (addresses.V6 first) (addresses.V6 last)) =
    RangeHasOne 128 last_wins before.v6 first last

-- the fault is that memory ran out, or a repetition, and then `repeated` holds
abbrev pub IsRefusal : Type 0 → RouteFault → Type 0
IsRefusal repeated faults.OutOfMemory = Unit {0}
IsRefusal repeated (faults.Refused (causes.Entry fault)) = ⊥
IsRefusal repeated (faults.Refused causes.Value) = ⊥
IsRefusal repeated (faults.Refused causes.Second) = ⊥
IsRefusal repeated (faults.Refused causes.Twice) = repeated
IsRefusal repeated (faults.Refused causes.Length) = ⊥
IsRefusal repeated (faults.Refused causes.HostBits) = ⊥

-- a line that is refused changes nothing
abbrev pub Keeps : {A : Type 0} → A → A → RouteFault → Type 0
Keeps before after faults.OutOfMemory = Unit {0}
Keeps before after (faults.Refused cause) = after ≡ before

-- the network is in the list, without host bits, and contains the network that is looked up; this is its value, and no
-- network of the list that contains the latter is longer
abbrev pub IsLongestRoute : Routes → IpNetwork → IpNetwork → Value → Type 0
IsLongestRoute routes (families.V4 asked) (families.V4 n) value = IsLongestOver 32 routes.v4 asked n value
    × HostBitsAreZero 32 n
IsLongestRoute routes (families.V4 asked) (families.V6 n) value = ⊥
IsLongestRoute routes (families.V6 asked) (families.V4 n) value = ⊥
IsLongestRoute routes (families.V6 asked) (families.V6 n) value = IsLongestOver 128 routes.v6 asked n value
    × HostBitsAreZero 128 n

-- no network of the list contains the network that is looked up
abbrev pub NoRouteHolds : Routes → IpNetwork → Type 0
NoRouteHolds routes (families.V4 asked) = NoneHasAll 32 routes.v4 asked
NoRouteHolds routes (families.V6 asked) = NoneHasAll 128 routes.v6 asked
