-- Results of calls for either family and for tables, and ends of sets: which number means that the answer is written,
-- and which that nothing is.
use Rattle.ipnetwork_c.proofs.Words.{◌≡◌, ◌≢◌, ◌↔◌, ℕ, ◌%◌, ◌<◌, ◌≤◌, List, [], ◌∷◌, ◌++◌, length, map, drop, get_or, refl, ap, subst, lit≤, arith, Option, Some, None, Result, Ok, Err, codes, replicate, digits, All, IpAddr, NamesIp, NamesV4, v6_of, gap_below, v4_of_sound, Network, slashes, before_slash, HasSeveralSlashes, Suffixed, ReadsV4Network, ReadsV6Network, v4_network_of, v6_network_of, CidrFault, Format, Addr, Prefix, IpNetwork, V4, V6, IpMember, NamesIpNetwork, ReadsIpNetwork, ip_network_text, ip_network_of, Ipv4InC, Ipv6InC, IpInC, IpWithCauseInC, AddressInC, ok, format, address, prefix, short_buffer, no_family, fault_number, PrefixFits, HoldsV4, HoldsV6, number_of_octets, On, Nothing, IsFlag, ReadsInto, StandsIn, PutsText, AnswersEach, address_in, HoldsIp, ReadsWithCause, MemberQuery, NoAddress, NoIpNetwork, OfNetwork, StandsForIp, v4_reads, v6_reads, ip_reads, ip_reads_with_cause, TableQuery, TableRows, IsTableOf, MakesTable}
use Rattle.std.specs.Prelude.{take}
use Rattle.ipnetwork_addr.specs.declared.ip.IpAddr.TheVariants as addresses
use Rattle.ipnetwork_c.specs.Either.NoIpNetwork.{NoFamily as ip_no_family, NoPrefix as ip_no_prefix}
use Rattle.ipnetwork_c.proofs.ResultExamples.{a_read_text_is_held}

-- ---- members of either family

no_fault : (held : IpInC) → NoIpNetwork held ok → ⊥
no_fault held (ip_no_family told is) = omega (arith, is)
no_fault held (ip_no_prefix n told past is) = omega (arith, is)

pub members_are_told_of_what_fits : (held : IpInC) (octets : List ℕ) (before after : ℕ)
    → MemberQuery held octets before after ok
    → (n : IpNetwork) × (a : IpAddr) × StandsForIp held n × (address_in octets ≡ Some a) × IsFlag (IpMember n a) after
members_are_told_of_what_fits held octets before after (On (a, address_told, On (n, stands, (is, flag)))) =
    (n, a, stands, address_told, flag)
members_are_told_of_what_fits held octets before after (On (a, address_told, Nothing none same)) =
    absurd (no_fault held none)
members_are_told_of_what_fits held octets before after (Nothing (none, is) same) = absurd (omega (arith, is))

pub no_member_is_told_after_a_fault : (held : IpInC) (octets : List ℕ) (before after code : ℕ) → code ≢ ok
    → MemberQuery held octets before after code → after ≡ before
no_member_is_told_after_a_fault held octets before after code fault (On (a, address_told, On (n, stands, (is, flag)))) =
    absurd (fault is)
no_member_is_told_after_a_fault held octets before after code fault (On (a, address_told, Nothing none same)) = same
no_member_is_told_after_a_fault held octets before after code fault (Nothing (none, is) same) = same

-- five octets are no address, whatever the struct's prefix length is
pub five_octets_are_of_no_family : (held : IpInC) (before after code : ℕ)
    → MemberQuery held (1 ∷ 2 ∷ 3 ∷ 4 ∷ 5 ∷ []) before after code → code ≡ no_family
five_octets_are_of_no_family held before after code (On (a, address_told, goes)) =
    let none : None ≡ Some a = address_told in cc
five_octets_are_of_no_family held before after code (Nothing (none, is) same) = is

pub four_octets_are_not_refused : (held : IpInC) (before after code : ℕ) → code ≢ ok
    → MemberQuery held (1 ∷ 2 ∷ 3 ∷ 4 ∷ []) before after code → NoIpNetwork held code
four_octets_are_not_refused held before after code fault (On (a, address_told, On (n, stands, (is, flag)))) =
    absurd (fault is)
four_octets_are_not_refused held before after code fault (On (a, address_told, Nothing none same)) = none
four_octets_are_not_refused held before after code fault (Nothing (none, is) same) =
    let some : Some (addresses.V4 0x01020304) ≡ None = none in cc

pub no_ipv4_address_is_a_member_of_an_ipv6_network : (n : Network) (a : ℕ)
    → ¬ (IsFlag (IpMember (V6 n) (addresses.V4 a)) 1)
no_ipv4_address_is_a_member_of_an_ipv6_network n a h = h.1.0 refl

-- ---- texts of either family

pub the_same_network_is_read_with_a_cause : (text : List ℕ) (n : IpNetwork)
    → ReadsWithCause text (Ok n) ↔ ReadsIpNetwork text (Ok n)
the_same_network_is_read_with_a_cause text n = ((λ h. h), (λ h. h))

pub a_network_text_has_no_cause : (text : List ℕ) (n : IpNetwork) (before after : IpInC) (code : ℕ)
    → NamesIpNetwork text n → ReadsInto ReadsWithCause HoldsIp text before after code → code ≡ ok
a_network_text_has_no_cause text n before after code named (On (m, read, (is, holds))) = is
a_network_text_has_no_cause text n before after code named (Nothing (cause, (told, is)) same) = absurd (told.1 n named)

pub several_slashes_are_told_first : (text : List ℕ) (before after : IpInC) (code : ℕ) → HasSeveralSlashes text
    → code ≢ ok → ReadsInto ReadsWithCause HoldsIp text before after code → code ≡ format
several_slashes_are_told_first text before after code several fault (On (m, read, (is, holds))) = absurd (fault is)
several_slashes_are_told_first text before after code several fault (Nothing (Format, (told, is)) same) = is
several_slashes_are_told_first text before after code several fault (Nothing (Addr, (told, is)) same) =
    absurd (omega (arith, several, told.0.0))
several_slashes_are_told_first text before after code several fault (Nothing (Prefix, (told, is)) same) =
    absurd (omega (arith, several, told.0.0))

pub no_address_is_told_next : (text : List ℕ) (before after : IpInC) (code : ℕ) → slashes text ≤ 1
    → ((a : IpAddr) → ¬ (NamesIp (before_slash text) a)) → code ≢ ok
    → ReadsInto ReadsWithCause HoldsIp text before after code → code ≡ address
no_address_is_told_next text before after code few none fault (On (m, read, (is, holds))) = absurd (fault is)
no_address_is_told_next text before after code few none fault (Nothing (Format, (told, is)) same) =
    absurd (omega (arith, few, told.0))
no_address_is_told_next text before after code few none fault (Nothing (Addr, (told, is)) same) = is
no_address_is_told_next text before after code few none fault (Nothing (Prefix, (told, is)) same) =
    absurd (none told.0.1.0 told.0.1.1)

pub what_stands_after_an_address_is_told : (text : List ℕ) (a : IpAddr) (before after : IpInC) (code : ℕ)
    → slashes text ≤ 1 → NamesIp (before_slash text) a → code ≢ ok
    → ReadsInto ReadsWithCause HoldsIp text before after code → code ≡ prefix
what_stands_after_an_address_is_told text a before after code few named fault (On (m, read, (is, holds))) =
    absurd (fault is)
what_stands_after_an_address_is_told text a before after code few named fault (Nothing (Format, (told, is)) same) =
    absurd (omega (arith, few, told.0))
what_stands_after_an_address_is_told text a before after code few named fault (Nothing (Addr, (told, is)) same) =
    absurd (told.0.1 a named)
what_stands_after_an_address_is_told text a before after code few named fault (Nothing (Prefix, (told, is)) same) = is

-- a law: reading returns what is computed, and nothing else
abbrev IsComputed : {N : Type 0} → (List ℕ → Result N CidrFault → Type 0) → (List ℕ → Result N CidrFault) → Type 0
IsComputed {N} Reads network_of = (text : List ℕ) (result : Result N CidrFault)
    → Reads text result ↔ (result ≡ network_of text)

-- host bits are kept; ::FFFF:129.144.52.38 is an example of RFC 4291, section 2.2
pub host_bits_are_read : IsComputed ReadsV4Network v4_network_of → (before : Ipv4InC)
    → v4_reads (codes "1.2.3.4/0") before (record { address = 1 ∷ 2 ∷ 3 ∷ 4 ∷ []; prefix = 0 }) ok
unfolding digits
host_bits_are_read law before =
    On (
      record { address = 0x01020304; prefix = 0 },
      (law (codes "1.2.3.4/0") (Ok (record { address = 0x01020304; prefix = 0 }))).1 refl,
      (refl, (refl, refl)),
    )

pub host_bits_are_not_cleared : IsComputed ReadsV4Network v4_network_of → (before : Ipv4InC)
    → ¬ (v4_reads (codes "1.2.3.4/0") before (record { address = replicate 4 0; prefix = 0 }) ok)
unfolding digits
host_bits_are_not_cleared law before h =
    let (n, reads, holds) = a_read_text_is_held ReadsV4Network HoldsV4 (codes "1.2.3.4/0") before
    (record { address = replicate 4 0; prefix = 0 }) h in
    let is : Ok n ≡ Ok (record { address = 0x01020304; prefix = 0 }) = (law (codes "1.2.3.4/0") (Ok n)).0 reads in
    let address_is : n.address ≡ 0x01020304 = cc in
    let last : 0 ≡ n.address % 256 = ap (λ (l : List ℕ). get_or l 3 0) holds.0 in omega (arith, last, address_is)

pub a_mapped_address_is_read : IsComputed ReadsV6Network v6_network_of → (before : Ipv6InC)
    → v6_reads (codes "::FFFF:129.144.52.38") before
    (record { address = replicate 10 0 ++ 255 ∷ 255 ∷ 129 ∷ 144 ∷ 52 ∷ 38 ∷ []; prefix = 128 }) ok
unfolding digits v6_of gap_below
a_mapped_address_is_read law before =
    On (
      record { address = 0xffff81903426; prefix = 128 },
      (law (codes "::FFFF:129.144.52.38")
          (Ok (record { address = 0xffff81903426; prefix = 128 }))).1 refl,
      (refl, (refl, refl)),
    )

pub a_prefix_length_of_129_is_not_read : IsComputed ReadsV6Network v6_network_of → (before after : Ipv6InC)
    → ¬ (v6_reads (codes "::/129") before after ok)
unfolding digits v6_of gap_below
a_prefix_length_of_129_is_not_read law before after h =
    let (n, reads, holds) = a_read_text_is_held ReadsV6Network HoldsV6 (codes "::/129") before after h in
    let is : Ok n ≡ Err Prefix = (law (codes "::/129") (Ok n)).0 reads in cc

-- 10.0.0.0/33 is refused for its prefix length; the call that reports no cause returns `address` for it
pub no_cause_is_told : IsComputed ReadsIpNetwork ip_network_of → (before : IpInC)
    → ip_reads (codes "10.0.0.0/33") before before address
unfolding digits v6_of gap_below
no_cause_is_told law before = Nothing (Addr, ((law (codes "10.0.0.0/33") (Err Addr)).1 refl, refl)) refl

pub no_prefix_length_is_told : (before after : IpInC) → ¬ (ip_reads (codes "10.0.0.0/33") before after prefix)
no_prefix_length_is_told before after (On (n, reads, (is, holds))) = omega (arith, is)
no_prefix_length_is_told before after (Nothing (cause, (reads, is)) same) =
    let fault : 3 ≡ 2 = subst (λ (c : CidrFault). prefix ≡ fault_number c) reads.0 is in omega (arith, fault)

ten_is_named : NamesV4 (codes "10.0.0.0") 0x0a000000
unfolding digits
ten_is_named = v4_of_sound (codes "10.0.0.0") 0x0a000000 refl

pub the_cause_is_told : IsComputed ReadsIpNetwork ip_network_of → (before : IpWithCauseInC)
    → ip_reads_with_cause (codes "10.0.0.0/33") before before prefix
unfolding digits v6_of gap_below
the_cause_is_told law before =
    let none = ((law (codes "10.0.0.0/33") (Err Addr)).1 refl).1 in
    Nothing (
      Prefix,
      (
        (
          (
            lit≤ tt,
            (
              addresses.V4 0x0a000000,
              ten_is_named,
              (
                codes "33",
                refl,
                λ p s. none (V4 (record { address = 0x0a000000; prefix = p }))
                    (Suffixed (codes "10.0.0.0") (codes "33") refl ten_is_named s),
              ),
            ),
          ),
          none,
        ),
        refl,
      ),
    ) refl

pub no_missing_address_is_told : (before after : IpWithCauseInC)
    → ¬ (ip_reads_with_cause (codes "10.0.0.0/33") before after address)
no_missing_address_is_told before after (On (n, reads, (is, holds))) = omega (arith, is)
no_missing_address_is_told before after (Nothing (Format, (reads, is)) same) = omega (arith, is)
no_missing_address_is_told before after (Nothing (Addr, (reads, is)) same) =
    reads.0.1 (addresses.V4 0x0a000000) ten_is_named
no_missing_address_is_told before after (Nothing (Prefix, (reads, is)) same) = omega (arith, is)

pub no_address_has_no_text : (held : AddressInC) (code : ℕ) → held.length ≡ 5 → NoAddress held code → code ≡ no_family
no_address_has_no_text held code five h = h.1

pub an_address_is_none_of_no_family : (octets : List ℕ) (code : ℕ)
    → ¬ (NoAddress (record { octets = octets; length = 4 }) code)
an_address_is_none_of_no_family octets code h =
    let some : Some (addresses.V4 (number_of_octets (take 4 octets))) ≡ None = h.0 in cc

pub a_text_that_has_room_is_written : (held : IpInC) (before after : List ℕ) (told_before told : ℕ)
    → OfNetwork held (λ n. PutsText (ip_network_text n)) (before, told_before) (after, told) ok
    → (n : IpNetwork) × StandsForIp held n × (length (ip_network_text n) < length before)
    × (told ≡ length (ip_network_text n)) × StandsIn (ip_network_text n) before after
a_text_that_has_room_is_written held before after told_before told (On (n, stands, (told_is, On (room, (is, put))))) =
    (n, stands, room, told_is, put)
a_text_that_has_room_is_written held before after told_before told
    (On (n, stands, (told_is, Nothing (none, is) same))) = absurd (omega (arith, is))
a_text_that_has_room_is_written held before after told_before told (Nothing none same) = absurd (no_fault held none)

-- ---- rows and tables

pub a_row_has_a_fault_of_its_own : (Answers : ℕ → ℕ → ℕ → ℕ → Type 0) (before after faults_before : List ℕ)
    → AnswersEach Answers 1 before after faults_before [] → ⊥
a_row_has_a_fault_of_its_own Answers before after faults_before h =
    let row = h.row 0 (omega arith) in
    let none : None ≡ Some row.2 = row.5 in
    cc

pub a_fault_behind_the_last_stays : (Answers : ℕ → ℕ → ℕ → ℕ → Type 0) (before after : List ℕ)
    → ¬ (AnswersEach Answers 0 before after (7 ∷ []) (8 ∷ []))
a_fault_behind_the_last_stays Answers before after h = let same : ◌≡◌ {A = Option ℕ} (Some 8) (Some 7) =
    h.fault_rest 0 (omega arith) in let is : ◌≡◌ {A = ℕ} 8 7 = cc in omega (arith, is)

pub a_row_behind_the_last_stays : (Answers : ℕ → ℕ → ℕ → ℕ → Type 0) (faults_before faults : List ℕ)
    → ¬ (AnswersEach Answers 0 (7 ∷ []) (8 ∷ []) faults_before faults)
a_row_behind_the_last_stays Answers faults_before faults h = let same : ◌≡◌ {A = Option ℕ} (Some 8) (Some 7) =
    h.rest 0 (omega arith) in let is : ◌≡◌ {A = ℕ} 8 7 = cc in omega (arith, is)

pub rows_without_room_are_not_written : {C : Type 0} (w : ℕ) (held : C → Network) (list : List C)
    (asked : List (List ℕ)) (before after : List ℕ × List ℕ) → TableRows w held list asked before after short_buffer
    → ¬ ((length asked ≤ length before.0) × (length asked ≤ length before.1)) × (after ≡ before)
rows_without_room_are_not_written w held list asked before after (On (room, (is, rows))) = absurd (omega (arith, is))
rows_without_room_are_not_written w held list asked before after (Nothing (none, is) same) = (none, same)

pub a_table_without_room_is_not_written : {C : Type 0} (w : ℕ) (held : C → Network) (networks : List C)
    (before after : List C × List ℕ) → MakesTable w held networks before after short_buffer
    → ¬ ((length networks ≤ length before.0) × (length networks ≤ length before.1)) × (after ≡ before)
a_table_without_room_is_not_written w held networks before after (On (fit, On (room, (is, table)))) =
    absurd (omega (arith, is))
a_table_without_room_is_not_written w held networks before after (On (fit, Nothing (none, is) same)) = (none, same)
a_table_without_room_is_not_written w held networks before after (Nothing (not, is) same) = absurd (omega (arith, is))

pub networks_past_the_width_make_no_table : {C : Type 0} (w : ℕ) (held : C → Network) (networks : List C)
    (before after : List C × List ℕ) → MakesTable w held networks before after prefix
    → ¬ (All (λ c. PrefixFits w (held c)) networks) × (after ≡ before)
networks_past_the_width_make_no_table w held networks before after (On (fit, On (room, (is, table)))) =
    absurd (omega (arith, is))
networks_past_the_width_make_no_table w held networks before after (On (fit, Nothing (none, is) same)) =
    absurd (omega (arith, is))
networks_past_the_width_make_no_table w held networks before after (Nothing (not, is) same) = (not, same)

pub a_table_that_is_made_is_written : {C : Type 0} (w : ℕ) (held : C → Network) (networks before after : List C)
    (places_before places : List ℕ) → MakesTable w held networks (before, places_before) (after, places) ok
    → (rows : List C) × (order : List ℕ) × IsTableOf w (map held networks) (map held rows) order
    × (after ≡ rows ++ drop (length networks) before) × (places ≡ order ++ drop (length networks) places_before)
a_table_that_is_made_is_written w held networks before after places_before places (On (fit, On (room, (is, table)))) =
    table
a_table_that_is_made_is_written w held networks before after places_before places (On (fit, Nothing (none, is) same)) =
    absurd (omega (arith, is))
a_table_that_is_made_is_written w held networks before after places_before places (Nothing (not, is) same) =
    absurd (omega (arith, is))

pub addresses_with_room_are_asked : {C : Type 0} (w : ℕ) (held : C → Network) (list : List C) (asked : List (List ℕ))
    (before after : List ℕ × List ℕ) → TableRows w held list asked before after ok
    → AnswersEach (λ i. TableQuery w held list (number_of_octets (get_or asked i []))) (length asked) before.0 after.0
    before.1 after.1
addresses_with_room_are_asked w held list asked before after (On (room, (is, rows))) = rows
addresses_with_room_are_asked w held list asked before after (Nothing (none, is) same) = absurd (omega (arith, is))
