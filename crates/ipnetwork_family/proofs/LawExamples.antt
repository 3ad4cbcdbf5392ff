-- What follows from the laws of sets but would not from weaker ones.
use Rattle.ipnetwork_family.proofs.Words.{◌≡◌, ℕ, ◌<◌, ◌⊎◌, inl, inr, ⊎_elim, refl, arith, Contains, List, Some, Ok, Err, Result, digits, slice_get, codes, String, string_bytes, Global, IsStrictlyIncreasing, EndsLaw, SubnetReflexive, SubnetTransitive, SameSet, BlockFits, BlockHasNoHostBits, BlockHasSameSet, Nesting, OverlapSymmetric, OverlapByAddress, OverlapByEnds, SubnetComesAfter, BetweenIsSubnet, MembersLaw, MembershipComputed, SubnetComputed, MasksDiffer, MaskIsComputed, MaskIsConverted, SameErrorPrintsTheSame, FormatFaultIsPrinted, CanonicalReadsBack, is_member, is_subnet, prefix_of_mask, GivesPrefixOfMask, Network, IsNetwork, IsNetworkAtMost, HostBitsAreZero, block_of, Member, Overlap, low, high, Subnet, members, mask_of, AddrParseError, BadAddress, BadFormat, RanOutOfMemory, refusal_of, refusal_text, fault_of, IsRefusal, v4_family, v6_family, ReadsV4Network, ReadsV6Network, ParsesAsItReads, ParsesV4Network, ParsesV6Network, CidrFault, IpNetworkError}
use Rattle.std.specs.Prelude.{◌↔◌, IsTrue}
use Rattle.ipnetwork_addr.specs.declared.error.AddrParseError.TheVariants as kinds
use Rattle.ipnetwork_family.proofs.Examples.{office, office_block, region, office_is_network}

-- 10.1.0.0/17
abbrev half : Network
half = record { address = 167837696; prefix = 17 }

office_block_fits : IsNetwork 32 office_block
office_block_fits = record { address_fits = omega arith; prefix_fits = omega arith }

half_fits : IsNetwork 32 half
half_fits = record { address_fits = omega arith; prefix_fits = omega arith }

region_fits : IsNetwork 32 region
region_fits = record { address_fits = omega arith; prefix_fits = omega arith }

-- the ends are members, and no member lies beyond them
pub least_is_listed : EndsLaw → Member 32 office 167837696
least_is_listed law =
    (law 32 office office_is_network).low_is_member

pub greatest_is_listed : EndsLaw → Member 32 office 167903231
greatest_is_listed law =
    (law 32 office office_is_network).high_is_member

pub none_above : EndsLaw → (w : ℕ) (n : Network) → IsNetwork w n → (x : ℕ) → high w n < x
    → ¬ (Member w n x)
none_above law w n fits x above member =
    absurd (omega (arith, ((law w n fits).within x member).1, above))

pub none_below : EndsLaw → (w : ℕ) (n : Network) → IsNetwork w n → (x : ℕ) → x < low w n
    → ¬ (Member w n x)
none_below law w n fits x below member =
    absurd (omega (arith, ((law w n fits).within x member).0, below))

-- a set is a subset of itself
pub in_itself : SubnetReflexive → Subnet 128 office office
in_itself law = law 128 office

-- three sets with three prefix lengths
pub half_is_in_region : SubnetTransitive → Subnet 32 half office_block → Subnet 32 office_block region
    → Subnet 32 half region
half_is_in_region law = law 32 half office_block region

-- host bits do not change the set, but a prefix length does
pub same_set : SameSet → Subnet 32 office office_block × Subnet 32 office_block office
same_set law =
    (law 32 office office_block office_is_network office_block_fits).1 (refl, refl)

pub other_set : SameSet → ¬ (Subnet 32 half office_block × Subnet 32 office_block half)
other_set law both =
    absurd (omega (arith, ((law 32 half office_block half_fits office_block_fits).0 both).0))

-- without host bits, it is still a network with the same addresses
pub block_fits : BlockFits → IsNetwork 32 office_block
block_fits law = law 32 office office_is_network

-- the block has no host bits, whatever the network is: 2^32 + 5 with prefix length 30, and 5 with 40
pub block_has_no_host_bits : BlockHasNoHostBits
    → HostBitsAreZero 32 (block_of 32 (record { address = 4294967301; prefix = 30 }))
    × HostBitsAreZero 32 (block_of 32 (record { address = 5; prefix = 40 }))
    × ((n : Network) → HostBitsAreZero 128 (block_of 128 n))
block_has_no_host_bits law = (
  law 32 (record { address = 4294967301; prefix = 30 }),
  law 32 (record { address = 5; prefix = 40 }),
  law 128,
)

pub block_has_no_more : BlockHasSameSet → (x : ℕ) → Member 32 office_block x → Member 32 office x
block_has_no_more law x = (law 32 office x).0

pub block_has_all : BlockHasSameSet → (x : ℕ) → Member 32 office x → Member 32 office_block x
block_has_all law x = (law 32 office x).1

-- two sets with two prefix lengths that share an address, in either order
pub nested : Nesting → Overlap 32 half region → Subnet 32 half region ⊎ Subnet 32 region half
nested law = law 32 half region half_fits region_fits

pub overlaps_back : OverlapSymmetric → Overlap 32 half region → Overlap 32 region half
overlaps_back law = law 32 half region

pub half_overlaps_region : OverlapByAddress → Overlap 32 half region
half_overlaps_region law = (law 32 half region half_fits region_fits).1 (inr (omega arith, refl))

pub region_overlaps_half : OverlapByAddress → Overlap 32 region half
region_overlaps_half law = (law 32 region half region_fits half_fits).1 (inl (omega arith, refl))

pub shares_an_address : OverlapByAddress → Overlap 32 region half
    → Member 32 region half.address ⊎ Member 32 half region.address
shares_an_address law = (law 32 region half region_fits half_fits).0

pub narrow_by_its_end : OverlapByEnds → Overlap 32 region half
narrow_by_its_end law =
    (law 32 region half region_fits half_fits).1 (inl (inr (omega arith, refl)))

pub wide_by_its_end : OverlapByEnds → Overlap 32 half region
wide_by_its_end law =
    (law 32 half region half_fits region_fits).1 (inr (inr (omega arith, refl)))

-- in order, a block comes before the blocks that lie in it, and all between them lie in it too
pub wide_comes_first : SubnetComesAfter → Subnet 32 half region → IsNetworkAtMost region half
wide_comes_first law = law 32 region half region_fits half_fits refl refl

pub between_lies_in_wide : BetweenIsSubnet → Subnet 32 half region → IsNetworkAtMost region office_block
    → IsNetworkAtMost office_block half → Subnet 32 office_block region
between_lies_in_wide law =
    law 32 region office_block half region_fits office_block_fits half_fits refl refl refl

-- the tests are true for members, and for nothing else
pub greatest_passes : MembershipComputed → IsTrue (is_member 32 office 167903231)
greatest_passes law = (law 32 office 167903231).1 (omega arith, refl)

pub passes_as_member : MembershipComputed → (w : ℕ) (n : Network) (x : ℕ)
    → IsTrue (is_member w n x) → Member w n x
passes_as_member law w n x = (law w n x).0

pub half_passes : SubnetComputed → Subnet 32 half region → IsTrue (is_subnet 32 half region)
half_passes law = (law 32 half region half_fits region_fits).1

pub passes_as_subnet : SubnetComputed → IsTrue (is_subnet 32 half region) → Subnet 32 half region
passes_as_subnet law = (law 32 half region half_fits region_fits).0

-- the list ascends, and has every member and nothing else
pub ascends : MembersLaw → IsStrictlyIncreasing (members 32 office)
ascends law = (law 32 office office_is_network).ascending

pub has_all : MembersLaw → (w : ℕ) (n : Network) → IsNetwork w n → (x : ℕ) → Member w n x
    → Contains (members w n) x
has_all law w n fits = (law w n fits).all

pub has_no_more : MembersLaw → (w : ℕ) (n : Network) → IsNetwork w n → (x : ℕ) → ¬ (Member w n x)
    → ¬ (Contains (members w n) x)
has_no_more law w n fits x out listed = out ((law w n fits).each x listed)

pub stands_at : MembersLaw → slice_get (members 32 office) 65535 ≡ Some 167903231
stands_at law = (law 32 office office_is_network).at 65535 (omega arith)

-- the masks of prefix length 0 and of the greatest one
pub longest_mask_differs : MasksDiffer → ¬ (mask_of 128 0 ≡ mask_of 128 128)
longest_mask_differs law same =
    absurd (omega (arith, law 128 0 128 (omega arith) (omega arith) same))

pub longest_mask_is_computed : MaskIsComputed → prefix_of_mask 128 (mask_of 128 128) ≡ Some 128
longest_mask_is_computed law = law 128 128 (omega arith)

pub no_mask_is_computed : MaskIsComputed → prefix_of_mask 32 (mask_of 32 0) ≡ Some 0
no_mask_is_computed law = law 32 0 (omega arith)

-- the result of converting a mask
pub mask_gives : MaskIsConverted → GivesPrefixOfMask 128 (mask_of 128 48) (Ok 48)
mask_gives law = (law 128 48 (Ok 48) (omega arith)).1 refl

pub mask_gives_no_more : MaskIsConverted → (result : Result ℕ IpNetworkError)
    → GivesPrefixOfMask 128 (mask_of 128 48) result → result ≡ Ok 48
mask_gives_no_more law result = (law 128 48 result (omega arith)).0

-- parsing returns the network that reading returns, or the error for the cause that reading returns
pub network_is_parsed : ParsesAsItReads ReadsV6Network kinds.Ipv6 ParsesV6Network
    → (text : List ℕ) (n : Network)
    → ParsesV6Network text (Ok n) ↔ ReadsV6Network text (Ok n)
network_is_parsed law text n = law text (Ok n)

pub prefix_is_refused : ParsesAsItReads ReadsV4Network kinds.Ipv4 ParsesV4Network → (text : List ℕ)
    → ReadsV4Network text (Err CidrFault.Prefix)
    → ParsesV4Network text (Err IpNetworkError.InvalidPrefix)
prefix_is_refused law text reads =
    (law text (Err IpNetworkError.InvalidPrefix)).1 (CidrFault.Prefix, reads, refl)

-- in either family, a printed network is read with its host bits
pub v4_is_read : CanonicalReadsBack v4_family → (result : Result Network CidrFault)
    → ReadsV4Network (codes "10.1.9.32/16") result → result ≡ Ok office
unfolding digits
v4_is_read law result = (law office result office_is_network).0

pub v6_is_read : CanonicalReadsBack v6_family
    → ReadsV6Network (codes "::1/64") (Ok (record { address = 1; prefix = 64 }))
unfolding digits
v6_is_read law =
    let n : Network = record { address = 1; prefix = 64 } in
    (law n (Ok n) (record { address_fits = omega arith; prefix_fits = omega arith })).1 refl

-- errors that print the same text are the same, and different kinds of errors print different texts
pub one_text : SameErrorPrintsTheSame → (a b : String Global)
    → refusal_text (BadFormat (string_bytes a)) ≡ refusal_text (BadFormat (string_bytes b))
    → string_bytes a ≡ string_bytes b
one_text law a b e =
    let same = (law (IpNetworkError.InvalidCidrFormat a) (IpNetworkError.InvalidCidrFormat b)).1 e in
    cc

pub two_kinds : SameErrorPrintsTheSame → (a b : String Global)
    → ¬ (refusal_text (BadAddress (string_bytes a)) ≡ refusal_text (BadFormat (string_bytes b)))
two_kinds law a b e =
    let same = (law (IpNetworkError.InvalidAddr a) (IpNetworkError.InvalidCidrFormat b)).1 e in
    cc

-- the printed text is the same for every kind of address that was expected
pub format_is_printed : FormatFaultIsPrinted → (kind : AddrParseError) (error : IpNetworkError)
    → IsRefusal (fault_of CidrFault.Format kind (codes "10/8/")) error
    → ¬ (refusal_of error ≡ RanOutOfMemory) → refusal_text (refusal_of error)
    ≡ codes "invalid cidr format: CIDR must contain a single '/': 10/8/"
format_is_printed law kind error h memory =
    ⊎_elim
    (λ (e : refusal_text (refusal_of error)
    ≡ codes "invalid cidr format: CIDR must contain a single '/': 10/8/"). e)
    (λ (e : refusal_of error ≡ RanOutOfMemory). absurd (memory e)) (law kind (codes "10/8/") error h)
