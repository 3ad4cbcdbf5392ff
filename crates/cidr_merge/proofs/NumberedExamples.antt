-- Lists at which a wrong definition of their lines would show. Each of these computes.
use Rattle.cidr_merge.proofs.Words.{◌≡◌, ◌∷◌, ℕ, List, [], true, false, count_leading_zeros, map, refl, digits, codes, None, Some, Ok, Err, v6_of, gap_below, V4, V6, Range, NumberedLine, is_range, lenient, numbered_lines, said_by}
use Rattle.ipnetwork.specs.declared.ip_network.IpNetwork.TheVariants as networks
use Rattle.lists.specs.declared.entry.Entry.TheVariants.{Network}
use Rattle.lists.specs.declared.entry.EntryFault.TheVariants as causes
use Rattle.lists.specs.declared.fault.LineFault.TheVariants as faults
use Rattle.lists.specs.declared.forms.LineForm.TheVariants.{Csv, Ipset, Nft}

abbrev line : ℕ → ℕ → List ℕ → NumberedLine
line list number text = record { list = list; number = number; text = text }

-- line numbers restart at 1 in each list, a list without lines has an index too, and the last line needs no line feed
pub lines_of_three_lists :
    numbered_lines 0 (codes "a\n\nb" ∷ [] ∷ codes "c\r\n" ∷ [])
    ≡ line 0 1 (codes "a") ∷ line 0 2 [] ∷ line 0 3 (codes "b") ∷ line 2 1 (codes "c") ∷ []
lines_of_three_lists = refl

-- a network with its host bits, a range, nothing, and a refused line of each kind
pub what_lines_say :
    map (said_by lenient) (codes "10.0.0.1/8 # x" ∷ codes "10.0.0.1 - 10.0.0.9" ∷ codes " ; y" ∷ [])
    ≡ Ok (Some (Network (networks.V4 (record { address = 0x0a000001; prefix = 8 }))))
    ∷ Ok (Some (Range (V4 0x0a000001) (V4 0x0a000009))) ∷ Ok None ∷ []
unfolding digits v6_of gap_below
what_lines_say = refl

pub why_lines_are_refused :
    map (said_by lenient) (codes "10.0.0.0/8/9" ∷ codes "10.0.0/8" ∷ codes "10.0.0.0/33" ∷ [])
    ≡ Err (faults.Entry causes.Format) ∷ Err (faults.Entry causes.Address)
    ∷ Err (faults.Entry causes.Prefix) ∷ []
unfolding digits v6_of gap_below
why_lines_are_refused = refl

pub why_comments_are_refused :
    map (said_by lenient) (codes "::1; ::2" ∷ codes "::1 # ::2/129" ∷ codes "::1#;1::-2::" ∷ [])
    ≡ Err (faults.Entry causes.Second) ∷ Ok (Some (Network (networks.V6 (record { address = 1; prefix = 128 }))))
    ∷ Err (faults.Entry causes.Second) ∷ []
unfolding digits v6_of gap_below
why_comments_are_refused = refl

pub why_ranges_are_refused :
    map (said_by lenient) (codes "10.0.0.9-10.0.0.1" ∷ codes "10.0.0.1-::1" ∷ codes "10.0.0.1-" ∷ [])
    ≡ Err (faults.Entry causes.Range) ∷ Err (faults.Entry causes.Range)
    ∷ Err (faults.Entry causes.Address) ∷ []
unfolding digits v6_of gap_below
why_ranges_are_refused = refl

-- where masks are taken: a mask and a wildcard, each with the address's host bits, numbers that are both, and one that is
-- neither; other entries are as they were
pub what_lines_with_masks_say :
    map (said_by (record lenient { takes_masks = true })) (codes "10.0.0.1 255.0.0.0" ∷ codes "\t10.0.0.0\t 0.255.255.255 # x"
    ∷ codes "10.0.0.5 0.0.0.0" ∷ codes "10.0.0.5 255.255.255.255" ∷ codes "10.0.0.1 0.0.0.1" ∷ codes "10.0.0.1/8"
    ∷ codes "::1 - ::2" ∷ codes " ; y" ∷ [])
    ≡ Ok (Some (Network (networks.V4 (record { address = 0x0a000001; prefix = 8 }))))
    ∷ Ok (Some (Network (networks.V4 (record { address = 0x0a000000; prefix = 8 }))))
    ∷ Ok (Some (Network (networks.V4 (record { address = 0x0a000005; prefix = 32 }))))
    ∷ Ok (Some (Network (networks.V4 (record { address = 0x0a000005; prefix = 32 }))))
    ∷ Ok (Some (Network (networks.V4 (record { address = 0x0a000001; prefix = 31 }))))
    ∷ Ok (Some (Network (networks.V4 (record { address = 0x0a000001; prefix = 8 }))))
    ∷ Ok (Some (Range (V6 1) (V6 2))) ∷ Ok None ∷ []
unfolding digits v6_of gap_below count_leading_zeros
what_lines_with_masks_say = refl

pub why_masks_are_refused :
    map (said_by (record lenient { takes_masks = true })) (codes "0.0.0.0 0.0.0.0" ∷ codes "0.0.0.0 255.255.255.255"
    ∷ codes "10.0.0.0 255.0.255.0" ∷ codes "::1 ffff::" ∷ codes "10.0.0.0 255.0.0.0 x" ∷ codes "10.0.0.0/8 255.0.0.0" ∷ [])
    ≡ Err (faults.Entry causes.Mask) ∷ Err (faults.Entry causes.Mask) ∷ Err (faults.Entry causes.Address)
    ∷ Err (faults.Entry causes.Address) ∷ Err (faults.Entry causes.Address) ∷ Err (faults.Entry causes.Prefix) ∷ []
unfolding digits v6_of gap_below count_leading_zeros
why_masks_are_refused = refl

-- a comment says some too, with two words where masks are taken alone
pub masks_in_comments :
    (map (said_by (record lenient { takes_masks = true })) (codes "::1 # 10.0.0.0 255.0.0.0" ∷ codes "::1;0.0.0.0 0.0.0.0"
    ∷ codes "10.0.0.0 255.0.0.0 # ::1" ∷ [])
    ≡ Err (faults.Entry causes.Second) ∷ Err (faults.Entry causes.Second) ∷ Err (faults.Entry causes.Second) ∷ [])
    × (map (said_by lenient) (codes "::1 # 10.0.0.0 255.0.0.0" ∷ codes "10.0.0.0 255.0.0.0" ∷ [])
    ≡ Ok (Some (Network (networks.V6 (record { address = 1; prefix = 128 })))) ∷ Err (faults.Entry causes.Address) ∷ [])
unfolding digits v6_of gap_below count_leading_zeros
masks_in_comments = (refl, refl)

-- where host bits are refused: a network with host bits, in two words too, and one of each family without, an address, a
-- range, nothing, and a line that names no entry
pub host_bits_are_refused :
    map (said_by (record lenient { refuses_host_bits = true; takes_masks = true })) (codes "10.0.0.1/8" ∷ codes "10.0.0.1 255.0.0.0"
    ∷ codes "::1/64 # x" ∷ codes "10.0.0.0/8" ∷ codes "::/64" ∷ codes "10.0.0.1" ∷ codes "::1-::2" ∷ codes "#" ∷ codes "x" ∷ [])
    ≡ Err (faults.Entry causes.HostBits) ∷ Err (faults.Entry causes.HostBits) ∷ Err (faults.Entry causes.HostBits)
    ∷ Ok (Some (Network (networks.V4 (record { address = 0x0a000000; prefix = 8 }))))
    ∷ Ok (Some (Network (networks.V6 (record { address = 0; prefix = 64 }))))
    ∷ Ok (Some (Network (networks.V4 (record { address = 0x0a000001; prefix = 32 }))))
    ∷ Ok (Some (Range (V6 1) (V6 2))) ∷ Ok None ∷ Err (faults.Entry causes.Address) ∷ []
unfolding digits v6_of gap_below count_leading_zeros
host_bits_are_refused = refl

-- in the form of another program: a network with its host bits, nothing, and a refused line of each kind
pub what_lines_of_csv_say :
    map (said_by (record lenient { form = Csv })) (codes "IPv4,10.0.0.1/8,10.0.0.0,10.255.255.255" ∷ codes "family,network,first,last"
    ∷ codes "IPv4,10.0.0.1/8,10.0.0.0,10.255.255.25" ∷ codes "10.0.0.1/8" ∷ [] ∷ [])
    ≡ Ok (Some (Network (networks.V4 (record { address = 0x0a000001; prefix = 8 })))) ∷ Ok None
    ∷ Err (faults.Entry causes.Format) ∷ Err (faults.Entry causes.Format) ∷ Err (faults.Entry causes.Format) ∷ []
unfolding digits v6_of gap_below
what_lines_of_csv_say = refl

pub what_lines_of_ipset_say :
    map (said_by (record lenient { form = Ipset })) (codes "add x 10.0.0.1/8" ∷ codes "add x ::1-::2" ∷ codes "swap x y" ∷ codes "add x" ∷ codes "add x ::1 ::2"
    ∷ codes "::1" ∷ [] ∷ [])
    ≡ Ok (Some (Network (networks.V4 (record { address = 0x0a000001; prefix = 8 })))) ∷ Ok (Some (Range (V6 1) (V6 2)))
    ∷ Ok None ∷ Err (faults.Entry causes.Address) ∷ Err (faults.Entry causes.Address) ∷ Err (faults.Entry causes.Format)
    ∷ Err (faults.Entry causes.Format) ∷ []
unfolding digits v6_of gap_below
what_lines_of_ipset_say = refl

pub what_lines_of_nft_say :
    map (said_by (record lenient { form = Nft })) ((9 ∷ codes "10.0.0.1/8,") ∷ (9 ∷ codes "::1-::2") ∷ codes "}" ∷ codes "add element inet x y {"
    ∷ (9 ∷ codes "::1,,") ∷ codes "::1" ∷ [] ∷ [])
    ≡ Ok (Some (Network (networks.V4 (record { address = 0x0a000001; prefix = 8 })))) ∷ Ok (Some (Range (V6 1) (V6 2)))
    ∷ Ok None ∷ Ok None ∷ Err (faults.Entry causes.Address) ∷ Err (faults.Entry causes.Format)
    ∷ Err (faults.Entry causes.Format) ∷ []
unfolding digits v6_of gap_below
what_lines_of_nft_say = refl

-- a range may have only one address; its ends must be of one family and in order
pub ranges_of_addresses :
    (is_range (V4 5) (V4 5) ≡ true) × (is_range (V4 5) (V4 4) ≡ false)
    × (is_range (V4 0) (V6 0) ≡ false) × (is_range (V6 0) (V4 0) ≡ false)
    × (is_range (V6 0) (V6 1) ≡ true)
ranges_of_addresses = (refl, refl, refl, refl, refl)
