-- Values at which a wrong definition of a strict check's findings would show. Each of these computes.
use Rattle.cidr_merge.proofs.Words.{◌≡◌, ℕ, List, ◌∷◌, [], ◌++◌, true, false, not, filter, range_with_len, refl, codes, String, Some, digits, gap_below, v6_of, V4, has_host_bits, host_findings, is_open, end_findings, ends_findings, Listed, lenient, pair_text, repetitions}
use Rattle.std.specs.Prelude.{map}
use Rattle.ipnetwork.specs.declared.ip_network.IpNetwork.TheVariants as networks
use Rattle.lists.specs.declared.entry.Entry.TheVariants.{Network}
use Rattle.lists.specs.declared.forms.LineForm.TheVariants.{Csv, Ipset, Nft}

-- the entry with these IPv4 addresses, on this line
abbrev pub entry : ℕ → ℕ → ℕ → Listed
entry first last number = record { first = V4 first; last = V4 last; list = 0; number = number }

-- two entries that lie in a wider one, and share no address with each other
pub both_in_the_widest : {Z : Type 0} (names : List (String Z))
    → repetitions names (entry 0 9 1 ∷ entry 1 2 2 ∷ entry 3 4 3 ∷ [])
    ≡ pair_text names (entry 1 2 2) (entry 0 9 1) ∷ pair_text names (entry 3 4 3) (entry 0 9 1) ∷ []
both_in_the_widest names = refl

-- an entry with the same addresses as the one just before it is reported with that one
pub same_as_the_one_before : {Z : Type 0} (names : List (String Z))
    → repetitions names (entry 0 9 1 ∷ entry 1 2 2 ∷ entry 1 2 3 ∷ [])
    ≡ pair_text names (entry 1 2 2) (entry 0 9 1) ∷ pair_text names (entry 1 2 3) (entry 1 2 2) ∷ []
same_as_the_one_before names = refl

-- of several entries with the greatest last address, the first is named; an entry that only touches another is not
-- reported
pub first_of_the_furthest : {Z : Type 0} (names : List (String Z))
    → repetitions names (entry 0 9 1 ∷ entry 5 9 2 ∷ entry 9 12 3 ∷ entry 13 14 4 ∷ [])
    ≡ pair_text names (entry 5 9 2) (entry 0 9 1) ∷ pair_text names (entry 9 12 3)
    (entry 0 9 1) ∷ []
first_of_the_furthest names = refl

-- 10.0.0.1/8 has host bits, 10.0.0.0/8 and 10.0.0.1/32 have none
pub an_address_in_the_set : has_host_bits (Some (Network
    (networks.V4 (record { address = 167772161; prefix = 8 })))) ≡ true
an_address_in_the_set = refl

pub the_first_address : has_host_bits (Some (Network (networks.V4
    (record { address = 167772160; prefix = 8 })))) ≡ false
the_first_address = refl

pub the_only_address : has_host_bits (Some (Network (networks.V4
    (record { address = 167772161; prefix = 32 })))) ≡ false
the_only_address = refl

-- for IPv6, ::1/0 and 2001:db8::1/64 have host bits, and ::/0 and ::1/128 have none
pub of_ipv6 : map (λ n. has_host_bits (Some (Network (networks.V6 n))))
    (record { address = 1; prefix = 0 } ∷ record { address = 0x20010db8000000000000000000000001; prefix = 64 }
    ∷ record { address = 0; prefix = 0 }
    ∷ record { address = 1; prefix = 128 } ∷ []) ≡ true ∷ true ∷ false ∷ false ∷ []
of_ipv6 = refl

pub host_bits_are_told : host_findings true (102 ∷ 10 ∷ []) 12
    (codes "10.0.0.1/8") ≡ codes "f\\x0a:12: host bits: 10.0.0.1/8\n" ∷ []
unfolding digits
host_bits_are_told = refl

-- ---- the ends of lists

-- of all bytes, a tab, a space, a `#` and a `;` end an entry
pub bytes_behind : filter (λ byte. not (is_open lenient (codes "::1" ++ byte ∷ []))) (range_with_len 0 256)
    ≡ 9 ∷ 32 ∷ 35 ∷ 59 ∷ []
bytes_behind = refl

-- and what is before it, or within a range, does not
pub open_lines : map (is_open lenient) (codes "::1" ∷ codes "\t ::1" ∷ codes "::1 - ::2" ∷ codes "::1 # x" ∷ codes "::1;x" ∷ [])
    ≡ true ∷ true ∷ true ∷ false ∷ false ∷ []
open_lines = refl

pub ends : map (end_findings lenient (codes "f")) (codes "x\n\n::1" ∷ codes "::1\n" ∷ codes "::1\n " ∷ codes "" ∷ codes "#::1"
    ∷ codes "::1/" ∷ []) ≡ (codes "f:3: no line feed at the end: may be cut off: ::1\n" ∷ []) ∷ [] ∷ [] ∷ [] ∷ [] ∷ [] ∷ []
unfolding digits gap_below v6_of
ends = refl

-- where masks are taken, a blank ends no IPv4 address, and each other entry
pub bytes_behind_an_address : filter (λ byte. not (is_open (record lenient { takes_masks = true })
    (codes "10.0.0.1" ++ byte ∷ []))) (range_with_len 0 256) ≡ 35 ∷ 59 ∷ []
unfolding digits
bytes_behind_an_address = refl

pub open_lines_with_masks : map (is_open (record lenient { takes_masks = true })) (codes " 10.0.0.1 \t" ∷ codes "::1 "
    ∷ codes "10.0.0.0/8 " ∷ codes "10.0.0.1 - 10.0.0.2 " ∷ codes "10.0.0.0 255.0.0.0 " ∷ codes "10.0.0.1 #"
    ∷ codes "10.0.0.0 255.0.0.0" ∷ []) ≡ true ∷ false ∷ false ∷ false ∷ false ∷ false ∷ true ∷ []
unfolding digits
open_lines_with_masks = refl

pub ends_with_masks : (map (end_findings (record lenient { takes_masks = true }) (codes "f")) (codes "10.0.0.1 "
    ∷ codes "10.0.0.0 255.0.0" ∷ codes "::1 " ∷ [])
    ≡ (codes "f:1: no line feed at the end: may be cut off: 10.0.0.1 \n" ∷ []) ∷ [] ∷ [] ∷ [])
    × (end_findings lenient (codes "f") (codes "10.0.0.1 ") ≡ [])
unfolding digits gap_below v6_of
ends_with_masks = (refl, refl)

-- of all bytes, a tab and a space end a line of ipset, and these and a comma one of nftables; a line of CSV is never open
pub bytes_of_forms : (filter (λ byte. not (is_open (record lenient { form = Ipset }) (codes "add x ::1" ++ byte ∷ []))) (range_with_len 0 256) ≡ 9 ∷ 32 ∷ [])
    × (filter (λ byte. not (is_open (record lenient { form = Nft }) (9 ∷ (codes "::1" ++ byte ∷ [])))) (range_with_len 0 256) ≡ 9 ∷ 32 ∷ 44 ∷ [])
    × (is_open (record lenient { form = Csv }) (codes "IPv6,::1/128,::1,::1") ≡ false)
bytes_of_forms = (refl, refl, refl)

-- in the form of another program, an element that may go on, one that does not, a line that adds none, and one of another
-- form
pub ends_of_forms : (map (end_findings (record lenient { form = Ipset }) (codes "f")) (codes "add x#1 ::1" ∷ codes "add x ::1 " ∷ codes "create x"
    ∷ codes "::1" ∷ []) ≡ (codes "f:1: no line feed at the end: may be cut off: add x#1 ::1\n" ∷ []) ∷ [] ∷ [] ∷ [] ∷ [])
    × (map (end_findings (record lenient { form = Nft }) (codes "f")) ((9 ∷ codes "::1") ∷ (9 ∷ codes "::1,") ∷ codes "}" ∷ codes "::1" ∷ [])
    ≡ ((codes "f:1: no line feed at the end: may be cut off: " ++ 9 ∷ codes "::1\n") ∷ []) ∷ [] ∷ [] ∷ [] ∷ [])
    × (end_findings (record lenient { form = Csv }) (codes "f") (codes "IPv6,::1/128,::1,::1") ≡ [])
unfolding digits gap_below v6_of
ends_of_forms = (refl, refl, refl)

-- a TEXT has no end
pub end_of_a_text : end_findings lenient (codes "-e ::1") (codes "::1") ≡ []
end_of_a_text = refl
