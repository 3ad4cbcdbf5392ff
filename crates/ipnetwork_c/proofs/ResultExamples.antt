-- What the results of calls exclude: which number means that the answer is written, and which that nothing is.
use Rattle.ipnetwork_c.proofs.Words.{◌≡◌, ◌≢◌, ℕ, ◌+◌, ◌-◌, ◌^◌, ◌<◌, ◌≤◌, ◌⊎◌, List, [], ◌∷◌, length, inl, inr, refl, arith, pos, min, Result, Ok, Err, Equal, Greater, NamesIp, IpAddr, Network, IsNoMask, mask_of, members, CidrFault, Format, Addr, Prefix, IpNetwork, IpInC, AddressInC, ok, address, prefix, short_buffer, no_mask, no_member, order_number, fault_number, Writes, Needs, Finds, Puts, On, Nothing, ReadsInto, IfFit, IsFlag, PutsText, WritesPrefix, HasSize, IsNth, WritesMember, HoldsAddress, ReadsAddress, OfNetwork, NoIpNetwork, StandsForIp, NoFamily, NoPrefix}
use Rattle.ipnetwork_c.proofs.MemberCounts.{ends_apart, nth_from_least}

-- ---- numbers

pub greater_is_one : order_number Greater ≡ pos 1
greater_is_one = refl

pub equal_is_zero : order_number Equal ≡ pos 0
equal_is_zero = refl

pub a_flag_is_not_two : (P : Type 0) → ¬ (IsFlag P 2)
a_flag_is_not_two P h = let most = h.0 in omega (arith, most)

pub a_flag_of_what_holds_is_one : (P : Type 0) → P → ¬ (IsFlag P 0)
a_flag_of_what_holds_is_one P holds h = let one = h.1.1 holds in omega (arith, one)

-- ---- the form of all results

pub what_is_needed_and_holds_is_not_refused : {M : Type 0} (Holds : Type 0) (fault : ℕ) (GoesOn : M → M → ℕ → Type 0)
    (before after : M) (code : ℕ) → Holds → Needs Holds fault GoesOn before after code → GoesOn before after code
what_is_needed_and_holds_is_not_refused Holds fault GoesOn before after code holds (On (also, goes)) = goes
what_is_needed_and_holds_is_not_refused Holds fault GoesOn before after code holds (Nothing (not, is) same) =
    absurd (not holds)

pub what_is_needed_and_does_not_hold_is_refused : {M : Type 0} (Holds : Type 0) (fault : ℕ) (GoesOn : M → M → ℕ
    → Type 0) (before after : M) (code : ℕ) → ¬ Holds → Needs Holds fault GoesOn before after code
    → (code ≡ fault) × (after ≡ before)
what_is_needed_and_does_not_hold_is_refused Holds fault GoesOn before after code not (On (holds, goes)) =
    absurd (not holds)
what_is_needed_and_does_not_hold_is_refused Holds fault GoesOn before after code not (Nothing (also, is) same) =
    (is, same)

pub what_is_not_found_is_refused : {A M : Type 0} (Is : A → Type 0) (Refuses : ℕ → Type 0) (GoesOn : A → M → M → ℕ
    → Type 0) (before after : M) (code : ℕ) → ((a : A) → ¬ (Is a)) → Finds Is Refuses GoesOn before after code
    → Refuses code × (after ≡ before)
what_is_not_found_is_refused Is Refuses GoesOn before after code none (On (a, is, goes)) = absurd (none a is)
what_is_not_found_is_refused Is Refuses GoesOn before after code none (Nothing refused same) = (refused, same)

pub what_is_done_returns_ok : {M : Type 0} (Written : M → Type 0) (before after : M)
    → ¬ (Writes Written before after prefix)
what_is_done_returns_ok Written before after h = let is = h.0 in omega (arith, is)

pub without_room_the_size_is_told : {M : Type 0} (HasRoom : Type 0) (size : ℕ) (Put : M → Type 0) (before after : M)
    (told_before told code : ℕ) → ¬ HasRoom → Puts HasRoom size Put (before, told_before) (after, told) code
    → (code ≡ short_buffer) × (told ≡ min size (2 ^ 64 - 1)) × (after ≡ before)
without_room_the_size_is_told HasRoom size Put before after told_before told code none
    (told_is, On (room, (is, (size_is, put)))) = absurd (none room)
without_room_the_size_is_told HasRoom size Put before after told_before told code none
    (told_is, Nothing (also, is) same) = (is, told_is, same)

pub with_room_it_is_put : {M : Type 0} (HasRoom : Type 0) (size : ℕ) (Put : M → Type 0) (before after : M)
    (told_before told code : ℕ) → HasRoom → Puts HasRoom size Put (before, told_before) (after, told) code
    → (code ≡ ok) × (told ≡ size) × Put after
with_room_it_is_put HasRoom size Put before after told_before told code room
    (told_is, On (also, (is, (size_is, put)))) = (is, size_is, put)
with_room_it_is_put HasRoom size Put before after told_before told code room (told_is, Nothing (none, is) same) =
    absurd (none room)

pub a_prefix_length_past_the_width_is_refused : {M : Type 0} (Fits : Type 0) (GoesOn : M → M → ℕ → Type 0)
    (before after : M) (code : ℕ) → ¬ Fits → IfFit Fits GoesOn before after code → (code ≡ prefix) × (after ≡ before)
a_prefix_length_past_the_width_is_refused Fits GoesOn before after code not h =
    what_is_needed_and_does_not_hold_is_refused Fits prefix GoesOn before after code not h

-- ---- texts

-- the zero byte needs room too
pub a_text_as_long_as_the_buffer_is_too_long : (told_before : ℕ) (after : List ℕ × ℕ)
    → ¬ (PutsText (49 ∷ 48 ∷ []) (7 ∷ 7 ∷ [], told_before) after ok)
a_text_as_long_as_the_buffer_is_too_long told_before after (told, On (room, (is, stands))) = omega (arith, room)
a_text_as_long_as_the_buffer_is_too_long told_before after (told, Nothing (none, is) same) = omega (arith, is)

pub a_buffer_with_room_is_written : (told_before : ℕ) (after : List ℕ × ℕ)
    → ¬ (PutsText (49 ∷ 48 ∷ []) (7 ∷ 7 ∷ 7 ∷ [], told_before) after short_buffer)
a_buffer_with_room_is_written told_before after (told, On (room, (is, stands))) = omega (arith, is)
a_buffer_with_room_is_written told_before after (told, Nothing (none, is) same) = none (omega arith)

-- the length of a text is written even if there is no room for the text
pub the_length_is_told : (text before after : List ℕ) (told_before told : ℕ) → PutsText text (before, told_before)
    (after, told) short_buffer → (length before ≤ length text) × (told ≡ length text) × (after ≡ before)
the_length_is_told text before after told_before told (told_is, On (room, (is, stands))) = absurd (omega (arith, is))
the_length_is_told text before after told_before told (told_is, Nothing (none, is) same) =
    (omega (arith, none), told_is, same)

-- a refused text leaves the struct unchanged, and the number is that of its cause
pub a_refused_text_leaves_the_struct : {N C : Type 0} (Reads : List ℕ → Result N CidrFault → Type 0) (Holds : C → N
    → Type 0) (text : List ℕ) (before after : C) (code : ℕ) → code ≢ ok → ReadsInto Reads Holds text before after code
    → (cause : CidrFault) × Reads text (Err cause) × (code ≡ fault_number cause) × (after ≡ before)
a_refused_text_leaves_the_struct Reads Holds text before after code fault (On (n, reads, (is, holds))) =
    absurd (fault is)
a_refused_text_leaves_the_struct Reads Holds text before after code fault (Nothing (cause, (reads, is)) same) =
    (cause, reads, is, same)

pub a_read_text_is_held : {N C : Type 0} (Reads : List ℕ → Result N CidrFault → Type 0) (Holds : C → N → Type 0)
    (text : List ℕ) (before after : C) → ReadsInto Reads Holds text before after ok
    → (n : N) × Reads text (Ok n) × Holds after n
a_read_text_is_held Reads Holds text before after (On (n, reads, (is, holds))) = (n, reads, holds)
a_read_text_is_held Reads Holds text before after (Nothing (cause, (reads, is)) same) = absurd (no_cause_is_ok cause is)
  where
    no_cause_is_ok : (cause : CidrFault) → ok ≡ fault_number cause → ⊥
    no_cause_is_ok Format is = omega (arith, is)
    no_cause_is_ok Addr is = omega (arith, is)
    no_cause_is_ok Prefix is = omega (arith, is)

-- ---- masks and members

-- the prefix length of a mask is written, and the mask is not refused
pub a_mask_is_not_refused : (w p before after : ℕ) → p ≤ w → ¬ (WritesPrefix w (mask_of w p) before after no_mask)
a_mask_is_not_refused w p before after fits (On (is, (within, equal))) = omega (arith, is)
a_mask_is_not_refused w p before after fits (Nothing (none, is) same) = none p fits refl

pub no_mask_has_no_prefix_length : (w mask before after : ℕ) → IsNoMask w mask → ¬ (WritesPrefix w mask before after ok)
no_mask_has_no_prefix_length w mask before after not (On (is, (within, same))) = not after within same
no_mask_has_no_prefix_length w mask before after not (Nothing (none, is) same) = omega (arith, is)

pub a_mask_is_told_by_its_prefix_length : (w mask before after : ℕ) → WritesPrefix w mask before after ok
    → (after ≤ w) × (mask ≡ mask_of w after)
a_mask_is_told_by_its_prefix_length w mask before after (On (is, (within, same))) = (within, same)
a_mask_is_told_by_its_prefix_length w mask before after (Nothing (none, is) same) = absurd (omega (arith, is))

pub no_mask_is_not_written : (w mask before after : ℕ) → WritesPrefix w mask before after no_mask → after ≡ before
no_mask_is_not_written w mask before after (On (is, (within, equal))) = absurd (omega (arith, is))
no_mask_is_not_written w mask before after (Nothing (none, is) same) = same

-- the network of all addresses has one member more than the index of the last
pub all_ipv4_addresses : HasSize 32 (record { address = 0; prefix = 0 }) (2 ^ 32)
all_ipv4_addresses = let apart : 0 + length (members 32 (record { address = 0; prefix = 0 })) ≡ 0xffffffff + 1 =
    ends_apart 32 (record { address = 0; prefix = 0 }) in omega (arith, apart)

pub all_ipv6_addresses : HasSize 128 (record { address = 0; prefix = 0 }) (2 ^ 128)
all_ipv6_addresses = let apart : 0 + length (members 128 (record { address = 0; prefix = 0 })) ≡
    0xffffffffffffffffffffffffffffffff + 1 = ends_apart 128 (record { address = 0; prefix = 0 }) in omega (arith, apart)

pub the_network_and_the_broadcast_address_count : (size : ℕ) → size ≢ 4
    → ¬ (HasSize 32 (record { address = 0x0a000001; prefix = 30 }) size)
the_network_and_the_broadcast_address_count size other h =
    let apart : 0x0a000000 + length (members 32 (record { address = 0x0a000001; prefix = 30 })) ≡ 0x0a000003 + 1 =
    ends_apart 32 (record { address = 0x0a000001; prefix = 30 }) in
    other (omega (arith, apart, h))

pub the_first_member_is_the_least : IsNth 32 (record { address = 0x0a000001; prefix = 30 }) 0 0x0a000000
the_first_member_is_the_least =
    let apart : 0x0a000000 + length (members 32 (record { address = 0x0a000001; prefix = 30 })) ≡ 0x0a000003 + 1 =
    ends_apart 32 (record { address = 0x0a000001; prefix = 30 }) in
    nth_from_least 32 (record { address = 0x0a000001; prefix = 30 }) 0 0x0a000000 (omega (arith, apart)) refl

pub a_member_that_is_there_is_written : (w : ℕ) (octets_of : ℕ → List ℕ) (n : Network) (i : ℕ) (before after : List ℕ)
    → i < length (members w n) → ¬ (WritesMember w octets_of n i before after no_member)
a_member_that_is_there_is_written w octets_of n i before after there (On (fits, On (x, nth, (is, octets)))) =
    omega (arith, is)
a_member_that_is_there_is_written w octets_of n i before after there (On (fits, Nothing (none, is) same)) =
    omega (arith, there, none)
a_member_that_is_there_is_written w octets_of n i before after there (Nothing (not, is) same) = omega (arith, is)

pub the_member_is_that_of_its_number : (w : ℕ) (octets_of : ℕ → List ℕ) (n : Network) (i : ℕ) (before after : List ℕ)
    → WritesMember w octets_of n i before after ok → (x : ℕ) × IsNth w n i x × (after ≡ octets_of x)
the_member_is_that_of_its_number w octets_of n i before after (On (fits, On (x, nth, (is, octets)))) = (x, nth, octets)
the_member_is_that_of_its_number w octets_of n i before after (On (fits, Nothing (none, is) same)) =
    absurd (omega (arith, is))
the_member_is_that_of_its_number w octets_of n i before after (Nothing (not, is) same) = absurd (omega (arith, is))

pub no_member_is_written_after_a_fault : (w : ℕ) (octets_of : ℕ → List ℕ) (n : Network) (i : ℕ) (before after : List ℕ)
    (code : ℕ) → code ≢ ok → WritesMember w octets_of n i before after code → after ≡ before
no_member_is_written_after_a_fault w octets_of n i before after code fault (On (fits, On (x, nth, (is, octets)))) =
    absurd (fault is)
no_member_is_written_after_a_fault w octets_of n i before after code fault (On (fits, Nothing (none, is) same)) = same
no_member_is_written_after_a_fault w octets_of n i before after code fault (Nothing (not, is) same) = same

-- ---- questions about either family

pub a_named_address_is_not_refused : (text : List ℕ) (a : IpAddr) (before after : AddressInC) (code : ℕ)
    → NamesIp text a → code ≢ ok → ¬ (ReadsAddress text before after code)
a_named_address_is_not_refused text a before after code names fault (On (b, also, (is, holds))) = fault is
a_named_address_is_not_refused text a before after code names fault (Nothing (none, is) same) = none a names

pub a_named_address_is_held : (text : List ℕ) (before after : AddressInC) → ReadsAddress text before after ok
    → (a : IpAddr) × NamesIp text a × HoldsAddress after a
a_named_address_is_held text before after (On (b, names, (is, holds))) = (b, names, holds)
a_named_address_is_held text before after (Nothing (none, is) same) = absurd (omega (arith, is))

pub no_address_leaves_the_struct : (text : List ℕ) (before after : AddressInC) → ReadsAddress text before after address
    → after ≡ before
no_address_leaves_the_struct text before after (On (b, also, (is, holds))) = absurd (omega (arith, is))
no_address_leaves_the_struct text before after (Nothing (none, is) same) = same

pub an_ip_query_is_answered : {A : Type 0} (held : IpInC) (Answers : IpNetwork → A → Type 0) (before after : A)
    → OfNetwork held (λ n. Writes (Answers n)) before after ok → (n : IpNetwork) × StandsForIp held n × Answers n after
an_ip_query_is_answered held Answers before after (On (n, stands, (is, answer))) = (n, stands, answer)
an_ip_query_is_answered held Answers before after (Nothing none same) = absurd (never none)
  where
    never : NoIpNetwork held ok → ⊥
    never (NoFamily told is) = omega (arith, is)
    never (NoPrefix n told past is) = omega (arith, is)

pub an_ip_query_is_refused : {A : Type 0} (held : IpInC) (Answers : IpNetwork → A → Type 0) (before after : A)
    (code : ℕ) → code ≢ ok → OfNetwork held (λ n. Writes (Answers n)) before after code
    → NoIpNetwork held code × (after ≡ before)
an_ip_query_is_refused held Answers before after code fault (On (n, stands, (is, answer))) = absurd (fault is)
an_ip_query_is_refused held Answers before after code fault (Nothing none same) = (none, same)

-- the second struct is checked only if the first represents a network
pub the_first_struct_is_judged_first : {A : Type 0} (one other : IpInC) (Answers : IpNetwork → IpNetwork → A → Type 0)
    (before after : A) (code : ℕ) → code ≢ ok
    → OfNetwork one (λ a. OfNetwork other (λ b. Writes (Answers a b))) before after code
    → (NoIpNetwork one code ⊎ ((a : IpNetwork) × StandsForIp one a × NoIpNetwork other code)) × (after ≡ before)
the_first_struct_is_judged_first one other Answers before after code fault
    (On (a, stands, On (b, also, (is, answer)))) = absurd (fault is)
the_first_struct_is_judged_first one other Answers before after code fault (On (a, stands, Nothing none same)) =
    (inr (a, stands, none), same)
the_first_struct_is_judged_first one other Answers before after code fault (Nothing none same) = (inl none, same)
