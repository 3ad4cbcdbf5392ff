-- The laws of networks, for addresses of any number of bits.
use Rattle.std.specs.Prelude.{◌≡◌, ℕ, ◌+◌, ◌<◌, ◌≤◌, ◌⊎◌, ◌↔◌, ◌++◌, codes, Contains, List, slice_get, Some, Result, Ok}
use Rattle.std.specs.Prelude.{IsTrue}
use Rattle.std.specs.List.Sorted.{IsStrictlyIncreasing}
use Rattle.ipnetwork_family.specs.Network.{Network, IsNetwork, Member, low, high, block_size, block_of, HostBitsAreZero}
use Rattle.ipnetwork_family.specs.Network.{Subnet, Overlap, IsNetworkAtMost, members, mask_of}
use Rattle.ipnetwork_family.specs.NetworkText.{before_slash, HasNoSuffix, NamesNetwork}
use Rattle.ipnetwork_family.specs.Computed.Network.{is_member, is_subnet, prefix_of_mask}
use Rattle.ipnetwork_family.specs.ErrorTexts.{RanOutOfMemory, refusal_of, refusal_text, fault_of, IsRefusal}
use Rattle.ipnetwork_family.specs.Family.{Family, ReadsNetworkOf, text_of}
use Rattle.ipnetwork_family.specs.Faults.{SameError}
use Rattle.ipnetwork_family.specs.Masks.{GivesPrefixOfMask}
use Rattle.ipnetwork_addr.specs.declared.error.AddrParseError.{AddrParseError}
use Rattle.ipnetwork_family.specs.declared.error.CidrFault.{CidrFault}
use Rattle.ipnetwork_family.specs.declared.error.CidrFault.TheVariants.{Format}
use Rattle.ipnetwork_family.specs.declared.error.IpNetworkError.{IpNetworkError}

-- the ends are the least and the greatest member, and the address of the network is a member
pub record HasEnds (w : ℕ) (n : Network) : Type 0 where
  pub low_is_member : Member w n (low w n)
  pub high_is_member : Member w n (high w n)
  pub address_is_member : Member w n n.address
  pub within : (x : ℕ) → Member w n x → (low w n ≤ x) × (x ≤ high w n)

-- `HasEnds` holds for every network
abbrev pub EndsLaw : Type 0
EndsLaw = (w : ℕ) (n : Network) → IsNetwork w n → HasEnds w n

-- each set is a subset of itself
abbrev pub SubnetReflexive : Type 0
SubnetReflexive = (w : ℕ) (a : Network) → Subnet w a a

-- a subset of a subset is a subset
abbrev pub SubnetTransitive : Type 0
SubnetTransitive = (w : ℕ) (a b c : Network) → Subnet w a b → Subnet w b c → Subnet w a c

-- two sets are subsets of each other exactly if their prefix lengths and least members agree
abbrev pub SameSet : Type 0
SameSet = (w : ℕ) (a b : Network) → IsNetwork w a → IsNetwork w b
    → (Subnet w a b × Subnet w b a) ↔ ((a.prefix ≡ b.prefix) × (low w a ≡ low w b))

-- the block of a network is itself a network
abbrev pub BlockFits : Type 0
BlockFits = (w : ℕ) (n : Network) → IsNetwork w n → IsNetwork w (block_of w n)

-- the block of a network has no host bits
abbrev pub BlockHasNoHostBits : Type 0
BlockHasNoHostBits = (w : ℕ) (n : Network) → HostBitsAreZero w (block_of w n)

-- the block of a network has the same members
abbrev pub BlockHasSameSet : Type 0
BlockHasSameSet = (w : ℕ) (n : Network) (x : ℕ) → Member w (block_of w n) x ↔ Member w n x

-- if two sets share an address, one is a subset of the other
abbrev pub Nesting : Type 0
Nesting = (w : ℕ) (a b : Network) → IsNetwork w a → IsNetwork w b → Overlap w a b
    → Subnet w a b ⊎ Subnet w b a

-- overlapping is symmetric
abbrev pub OverlapSymmetric : Type 0
OverlapSymmetric = (w : ℕ) (a b : Network) → Overlap w a b → Overlap w b a

-- two networks overlap exactly if the address of one is in the other
abbrev pub OverlapByAddress : Type 0
OverlapByAddress = (w : ℕ) (a b : Network) → IsNetwork w a → IsNetwork w b
    → Overlap w a b ↔ (Member w a b.address ⊎ Member w b a.address)

-- two networks overlap exactly if one of four membership tests is true
abbrev pub OverlapByEnds : Type 0
OverlapByEnds = (w : ℕ) (a b : Network) → IsNetwork w a → IsNetwork w b
    → Overlap w a b ↔ ((Member w a b.address ⊎ Member w a (high w b))
    ⊎ (Member w b a.address ⊎ Member w b (high w a)))

-- a network without host bits does not come after any network without host bits that lies in it
abbrev pub SubnetComesAfter : Type 0
SubnetComesAfter = (w : ℕ) (a c : Network) → IsNetwork w a → IsNetwork w c
    → HostBitsAreZero w a → HostBitsAreZero w c → Subnet w c a → IsNetworkAtMost a c

-- for a block c in a block a, each block in order from a to c lies in a too
abbrev pub BetweenIsSubnet : Type 0
BetweenIsSubnet = (w : ℕ) (a b c : Network) → IsNetwork w a → IsNetwork w b → IsNetwork w c
    → HostBitsAreZero w a → HostBitsAreZero w b → HostBitsAreZero w c
    → Subnet w c a → IsNetworkAtMost a b → IsNetworkAtMost b c → Subnet w b a

-- the list of members is strictly ascending and contains exactly the members
pub record ListsMembers (w : ℕ) (n : Network) : Type 0 where
  pub ascending : IsStrictlyIncreasing (members w n)
  pub each : (x : ℕ) → Contains (members w n) x → Member w n x
  pub all : (x : ℕ) → Member w n x → Contains (members w n) x
  pub at : (i : ℕ) → i < block_size w n.prefix → slice_get (members w n) i ≡ Some (low w n + i)

-- `ListsMembers` holds for every network
abbrev pub MembersLaw : Type 0
MembersLaw = (w : ℕ) (n : Network) → IsNetwork w n → ListsMembers w n

-- the membership test is true exactly for members
abbrev pub MembershipComputed : Type 0
MembershipComputed = (w : ℕ) (n : Network) (x : ℕ) → IsTrue (is_member w n x) ↔ Member w n x

-- the subnet test is true exactly if each member of a is a member of b
abbrev pub SubnetComputed : Type 0
SubnetComputed = (w : ℕ) (a b : Network) → IsNetwork w a → IsNetwork w b
    → IsTrue (is_subnet w a b) ↔ Subnet w a b

-- the w + 1 masks are all different
abbrev pub MasksDiffer : Type 0
MasksDiffer = (w p q : ℕ) → p ≤ w → q ≤ w → mask_of w p ≡ mask_of w q → p ≡ q

-- the prefix length computed from the mask of p is p
abbrev pub MaskIsComputed : Type 0
MaskIsComputed = (w p : ℕ) → p ≤ w → prefix_of_mask w (mask_of w p) ≡ Some p

-- converting the mask of p returns p and nothing else
abbrev pub MaskIsConverted : Type 0
MaskIsConverted = (w p : ℕ) (result : Result ℕ IpNetworkError) → p ≤ w
    → GivesPrefixOfMask w (mask_of w p) result ↔ (result ≡ Ok p)

-- two errors are the same exactly if they print the same text
abbrev pub SameErrorPrintsTheSame : Type 0
SameErrorPrintsTheSame = (a b : IpNetworkError)
    → SameError a b ↔ (refusal_text (refusal_of a) ≡ refusal_text (refusal_of b))

-- the error for a text with two or more `/` prints what is wrong and the text, unless memory ran out
abbrev pub FormatFaultIsPrinted : Type 0
FormatFaultIsPrinted = (kind : AddrParseError) (text : List ℕ) (error : IpNetworkError)
    → IsRefusal (fault_of Format kind text) error
    → (refusal_text (refusal_of error)
    ≡ codes "invalid cidr format: CIDR must contain a single '/': " ++ text)
    ⊎ (refusal_of error ≡ RanOutOfMemory)

-- the canonical text of a network is read as that network and as nothing else
abbrev pub CanonicalReadsBack : {w : ℕ} → Family w → Type 0
CanonicalReadsBack {w} family = (n : Network) (result : Result Network CidrFault) → IsNetwork w n
    → ReadsNetworkOf family (text_of family n) result ↔ (result ≡ Ok n)

-- if the part of a text before its first `/` is an address but the text names no network, then the text has a `/`, and
-- the part after it is not a suffix
abbrev pub SuffixIsRefused : ℕ → (List ℕ → ℕ → Type 0) → (List ℕ → ℕ → Type 0) → Type 0
SuffixIsRefused w NamesAddress IsSuffix = (text : List ℕ) (a : ℕ)
    → NamesAddress (before_slash text) a
    → ((n : Network) → ¬ (NamesNetwork w NamesAddress IsSuffix text n)) → HasNoSuffix IsSuffix text
