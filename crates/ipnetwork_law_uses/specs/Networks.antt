-- What is concluded from the laws of the sets that networks represent.
use Rattle.std.specs.Prelude.{◌≡◌, ℕ, ◌+◌, ◌<◌, ◌≤◌, ◌⊎◌, ◌↔◌, Contains, Some, slice_get}
use Rattle.std.specs.List.Sorted.{IsStrictlyIncreasing}
use Rattle.ipnetwork_family.specs.Network.{Network, IsNetwork, HostBitsAreZero, Member, Subnet, Overlap, IsNetworkAtMost}
use Rattle.ipnetwork_family.specs.Network.{block_size, low, high, members}

-- the ends are the least and the greatest member, and the address is a member
abbrev pub HasItsEnds : ℕ → Network → Type 0
HasItsEnds w n = Member w n (low w n) × Member w n (high w n) × Member w n n.address
    × ((x : ℕ) → Member w n x → (low w n ≤ x) × (x ≤ high w n))

-- if the networks share an address, one lies in the other; they share one exactly if the address of one is in the other
abbrev pub IsNestedWith : ℕ → Network → Network → Type 0
IsNestedWith w a b = (Overlap w a b → Subnet w a b ⊎ Subnet w b a)
    × (Overlap w a b ↔ (Member w a b.address ⊎ Member w b a.address))

-- the networks share an address exactly if one of the addresses and last addresses is in the other network
abbrev pub IsFoundByEnds : ℕ → Network → Network → Type 0
IsFoundByEnds w a b = Overlap w a b ↔ ((Member w a b.address ⊎ Member w a (high w b))
    ⊎ (Member w b a.address ⊎ Member w b (high w a)))

-- of three networks without host bits of which the last lies in the first, the first does not come after the last, and
-- if the second is in order between the two, it lies in the first too
abbrev pub StandsBetween : ℕ → Network → Network → Network → Type 0
StandsBetween w a b c = IsNetwork w a → IsNetwork w b → IsNetwork w c → HostBitsAreZero w a → HostBitsAreZero w b
    → HostBitsAreZero w c → Subnet w c a
    → IsNetworkAtMost a c × (IsNetworkAtMost a b → IsNetworkAtMost b c → Subnet w b a)

-- the members are listed in ascending order, each once and no others; the one at index i is the least plus i
abbrev pub ListsItsMembers : ℕ → Network → Type 0
ListsItsMembers w n = IsStrictlyIncreasing (members w n) × ((x : ℕ) → Contains (members w n) x ↔ Member w n x)
    × ((i : ℕ) → i < block_size w n.prefix → slice_get (members w n) i ≡ Some (low w n + i))
