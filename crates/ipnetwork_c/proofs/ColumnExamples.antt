-- Columns and lists in the caller's memory that would expose a misreading of the definitions.
use Rattle.ipnetwork_c.proofs.Words.{◌≡◌, ◌≢◌, ℕ, zero, suc, ◌+◌, ◌-◌, ◌^◌, ◌<◌, ◌≤◌, List, [], ◌∷◌, ◌++◌, map, length, get_or, refl, sym, ap, ◌∙◌, lit<, lit≤, arith, length-append, same_Some, slice_get_past, ⊤, Option, Some, min, codes, replicate, All, digits, Network, IsAggregate, IsLeastList, FromTo, IsAddressSet, Ipv4InC, ok, prefix, short_buffer, no_member, no_offsets, no_range, no_set, PrefixFits, HoldsV4, On, Nothing, StandInFront, PutsBlocks, Aggregates, RangeOperation, WritesSubnet, SetOperation, BothFit, BothAreSets, member_flag, WritesFlags, AnswersRows, AnswersEach, AsksEach, row_count, row_text, AreOffsets, ReadsRows, ReadsColumn, PrintsRows, HasColumnRoom, FirstRefused, PrintsColumn, v4_fits, v4_refused, v4_text, v6_fits, v6_refused, v6_text, ip_text, address_text}
use Rattle.std.specs.Prelude.{take, flat_map}

-- ---- columns of texts

pub offsets_do_not_fall : (texts : List ℕ) → ¬ (AreOffsets texts (0 ∷ 2 ∷ 1 ∷ []))
offsets_do_not_fall texts h = let up : 2 ≤ 1 = h.rising 1 (omega arith) in omega (arith, up)

pub offsets_do_not_pass_the_end : ¬ (AreOffsets (7 ∷ 7 ∷ []) (0 ∷ 3 ∷ []))
offsets_do_not_pass_the_end h = let within : 3 ≤ 2 = h.within 1 (omega arith) in omega (arith, within)

pub two_offsets_have_one_text : row_count (0 ∷ 2 ∷ []) ≡ 1
two_offsets_have_one_text = refl

pub no_offsets_have_no_text : row_count [] ≡ 0
no_offsets_have_no_text = refl

pub a_text_lies_between_two_offsets : row_text (1 ∷ 2 ∷ 3 ∷ 4 ∷ 5 ∷ []) (0 ∷ 2 ∷ 5 ∷ []) 1 ≡ 3 ∷ 4 ∷ 5 ∷ []
a_text_lies_between_two_offsets = refl

pub no_offsets_read_nothing : {R : Type 0} (Reads : List ℕ → R → R → ℕ → Type 0) (texts offsets : List ℕ)
    (before after : List R × List ℕ) → ReadsColumn Reads texts offsets before after no_offsets
    → ¬ (AreOffsets texts offsets) × (after ≡ before)
no_offsets_read_nothing Reads texts offsets before after (On (are, On (room, (is, rows)))) = absurd (omega (arith, is))
no_offsets_read_nothing Reads texts offsets before after (On (are, Nothing (none, is) same)) =
    absurd (omega (arith, is))
no_offsets_read_nothing Reads texts offsets before after (Nothing (not, is) same) = (not, same)

pub texts_without_room_are_not_read : {R : Type 0} (Reads : List ℕ → R → R → ℕ → Type 0) (texts offsets : List ℕ)
    (before after : List R × List ℕ) → ReadsColumn Reads texts offsets before after short_buffer
    → ¬ ((row_count offsets ≤ length before.0) × (row_count offsets ≤ length before.1)) × (after ≡ before)
texts_without_room_are_not_read Reads texts offsets before after (On (are, On (room, (is, rows)))) =
    absurd (omega (arith, is))
texts_without_room_are_not_read Reads texts offsets before after (On (are, Nothing (none, is) same)) = (none, same)
texts_without_room_are_not_read Reads texts offsets before after (Nothing (not, is) same) = absurd (omega (arith, is))

pub texts_with_room_are_read : {R : Type 0} (Reads : List ℕ → R → R → ℕ → Type 0) (texts offsets : List ℕ)
    (before after : List R × List ℕ) → ReadsColumn Reads texts offsets before after ok
    → AreOffsets texts offsets × ReadsRows Reads texts offsets (row_count offsets) before.0 after.0 before.1 after.1
texts_with_room_are_read Reads texts offsets before after (On (are, On (room, (is, rows)))) = (are, rows)
texts_with_room_are_read Reads texts offsets before after (On (are, Nothing (none, is) same)) =
    absurd (omega (arith, is))
texts_with_room_are_read Reads texts offsets before after (Nothing (not, is) same) = absurd (omega (arith, is))

-- ---- columns that are printed

-- texts of 2^31 bytes have no room, however long the buffer is; texts of one byte less do
pub texts_of_2_to_the_31_have_no_room : {R : Type 0} (text : R → List ℕ) (rows : List R) (before offsets : List ℕ)
    → length (flat_map text rows) ≡ 2 ^ 31 → ¬ (HasColumnRoom text rows before offsets)
texts_of_2_to_the_31_have_no_room text rows before offsets size h = let short = h.short in omega (arith, size, short)

pub texts_of_one_byte_less_have : {R : Type 0} (text : R → List ℕ) (rows : List R) (before offsets : List ℕ) → length
    (flat_map text rows) ≡ 2 ^ 31 - 1 → length (flat_map text rows) ≤ length before → length rows + 1 ≡ length offsets
    → HasColumnRoom text rows before offsets
texts_of_one_byte_less_have text rows before offsets size room count =
    record { texts = room; short = omega (arith, size); offsets = omega (arith, count) }

pub as_many_offsets_as_rows_are_too_few : {R : Type 0} (text : R → List ℕ) (rows : List R) (before offsets : List ℕ)
    → length offsets ≡ length rows → ¬ (HasColumnRoom text rows before offsets)
as_many_offsets_as_rows_are_too_few text rows before offsets size h = let more = h.offsets in omega (arith, size, more)

pub texts_are_not_longer_than_the_buffer : {R : Type 0} (text : R → List ℕ) (rows : List R) (before offsets : List ℕ)
    → length before < length (flat_map text rows) → ¬ (HasColumnRoom text rows before offsets)
texts_are_not_longer_than_the_buffer text rows before offsets long h = let room = h.texts in omega (arith, long, room)

-- without room only the length is written, and with room the column too
pub without_room_the_length_is_told : {R : Type 0} (Fits : R → Type 0) (Refused : R → ℕ → Type 0) (text : R → List ℕ)
    (rows : List R) (before after : List ℕ × List ℕ) (told_before told : ℕ) → ((r : R) → ¬ (Refused r short_buffer))
    → PrintsColumn Fits Refused text rows (before, told_before) (after, told) short_buffer
    → ¬ (HasColumnRoom text rows before.0 before.1) × (told ≡ min (length (flat_map text rows)) (2 ^ 64 - 1))
    × (after ≡ before)
without_room_the_length_is_told Fits Refused text rows before after told_before told other
    (On (fit, (told_is, On (room, (is, (size_is, prints)))))) = absurd (omega (arith, is))
without_room_the_length_is_told Fits Refused text rows before after told_before told other
    (On (fit, (told_is, Nothing (none, is) same))) = (none, told_is, same)
without_room_the_length_is_told Fits Refused text rows before after told_before told other
    (Nothing (i, r, there, fit, refused) same) = absurd (other r refused)

pub rows_with_room_are_printed : {R : Type 0} (Fits : R → Type 0) (Refused : R → ℕ → Type 0) (text : R → List ℕ)
    (rows : List R) (before after : List ℕ × List ℕ) (told_before told : ℕ) → ((r : R) → ¬ (Refused r ok))
    → PrintsColumn Fits Refused text rows (before, told_before) (after, told) ok
    → All Fits rows × (told ≡ length (flat_map text rows)) × PrintsRows text rows before.0 after.0 before.1 after.1
rows_with_room_are_printed Fits Refused text rows before after told_before told other
    (On (fit, (told_is, On (room, (is, (size_is, prints)))))) = (fit, size_is, prints)
rows_with_room_are_printed Fits Refused text rows before after told_before told other
    (On (fit, (told_is, Nothing (none, is) same))) = absurd (omega (arith, is))
rows_with_room_are_printed Fits Refused text rows before after told_before told other
    (Nothing (i, r, there, fit, refused) same) = absurd (other r refused)

-- if two rows do not fit, the fault is that of the first
pub the_first_refused_row_is_told : (code : ℕ) → FirstRefused (λ r. r ≡ 0) (λ r fault. fault ≡ r) (7 ∷ 8 ∷ []) code
    → code ≡ 7
the_first_refused_row_is_told code (zero, r, there, fit, refused) = let is : Some 7 ≡ Some r = there in
    let same : 7 ≡ r = cc in omega (arith, same, refused)
the_first_refused_row_is_told code (suc i, r, there, fit, refused) = let none : 7 ≡ 0 = fit 0 7 (omega arith) in
    omega (arith, none)

-- the text of 1 is the byte 49: what follows it is unchanged
pub a_byte_behind_the_texts_stays : (offsets_before offsets : List ℕ)
    → ¬ (PrintsRows (λ (r : ℕ). (48 + r) ∷ []) (1 ∷ []) (7 ∷ 7 ∷ []) (49 ∷ 0 ∷ []) offsets_before offsets)
a_byte_behind_the_texts_stays offsets_before offsets h =
    let behind : 0 ≡ 7 = ap (λ (l : List ℕ). get_or l 1 0) h.texts in omega (arith, behind)

pub the_last_offset_is_the_end : (texts before : List ℕ)
    → ¬ (PrintsRows (λ (r : ℕ). (48 + r) ∷ []) (1 ∷ []) before texts (9 ∷ 9 ∷ []) (0 ∷ 9 ∷ []))
the_last_offset_is_the_end texts before h = let end : 9 ≡ 1 = h.offset 1 (omega arith) in omega (arith, end)

pub an_offset_behind_the_last_stays : (texts before : List ℕ)
    → ¬ (PrintsRows (λ (r : ℕ). []) [] before texts (9 ∷ 9 ∷ []) (0 ∷ 8 ∷ []))
an_offset_behind_the_last_stays texts before h = let behind : ◌≡◌ {A = Option ℕ} (Some 8) (Some 9) =
    h.rest 1 (omega arith) in let is : ◌≡◌ {A = ℕ} 8 9 = cc in omega (arith, is)

pub full_widths_are_printed : v4_fits (record { address = []; prefix = 32 })
    × v6_fits (record { address = []; prefix = 128 })
full_widths_are_printed = (omega arith, omega arith)

pub more_than_the_width_is_refused : v4_refused (record { address = []; prefix = 33 }) prefix
    × v6_refused (record { address = []; prefix = 129 }) prefix
more_than_the_width_is_refused = (((λ h. omega (arith, h)), refl), ((λ h. omega (arith, h)), refl))

pub a_full_width_is_not_refused : ¬ (v4_refused (record { address = []; prefix = 32 }) prefix)
a_full_width_is_not_refused h = h.0 (omega arith)

pub a_row_is_printed_as_its_network : v4_text (record { address = 10 ∷ 0 ∷ 0 ∷ 1 ∷ []; prefix = 8 }) ≡ codes
    "10.0.0.1/8"
unfolding digits
a_row_is_printed_as_its_network = refl

pub a_row_of_ipv6_too : v6_text (record { address = replicate 15 0 ++ 1 ∷ []; prefix = 128 }) ≡ codes "::1/128"
unfolding digits
a_row_of_ipv6_too = refl

pub a_row_of_either_family_too : ip_text
    (record
    { family = 4; v4 = record { address = 10 ∷ 0 ∷ 0 ∷ 1 ∷ []; prefix = 8 }; v6 = record { address = []; prefix = 0 } })
    ≡ codes "10.0.0.1/8"
unfolding digits
a_row_of_either_family_too = refl

pub a_row_is_printed_as_its_address : address_text (record { octets = 10 ∷ 0 ∷ 0 ∷ 1 ∷ replicate 12 0; length = 4 })
    ≡ codes "10.0.0.1"
unfolding digits
a_row_is_printed_as_its_address = refl

-- ---- answers by row

pub a_member_is_told_as_one : member_flag 32 (record { address = 0x0a000000; prefix = 8 }) (10 ∷ 1 ∷ 2 ∷ 3 ∷ []) ≡ 1
a_member_is_told_as_one = refl

pub what_is_no_member_is_told_as_zero : member_flag 32 (record { address = 0x0a000000; prefix = 8 })
    (3 ∷ 2 ∷ 1 ∷ 10 ∷ []) ≡ 0
what_is_no_member_is_told_as_zero = refl

pub an_answer_behind_the_rows_stays : ¬ (AnswersRows 32 (record { address = 0; prefix = 0 }) [] (7 ∷ []) (8 ∷ []) ok)
an_answer_behind_the_rows_stays (On (fits, On (room, (is, answers)))) =
    let same : 8 ≡ 7 = ap (λ (l : List ℕ). get_or l 0 0) answers in omega (arith, same)
an_answer_behind_the_rows_stays (On (fits, Nothing (none, is) same)) = omega (arith, is)
an_answer_behind_the_rows_stays (Nothing (not, is) same) = omega (arith, is)

pub rows_without_room_are_not_answered : (w : ℕ) (n : Network) (rows : List (List ℕ)) (before after : List ℕ)
    → AnswersRows w n rows before after short_buffer → (length before < length rows) × (after ≡ before)
rows_without_room_are_not_answered w n rows before after (On (fits, On (room, (is, answers)))) =
    absurd (omega (arith, is))
rows_without_room_are_not_answered w n rows before after (On (fits, Nothing (none, is) same)) =
    (omega (arith, none), same)
rows_without_room_are_not_answered w n rows before after (Nothing (not, is) same) = absurd (omega (arith, is))

pub rows_of_no_network_are_not_answered : (w : ℕ) (n : Network) (rows : List (List ℕ)) (before after : List ℕ)
    → AnswersRows w n rows before after prefix → ¬ (PrefixFits w n) × (after ≡ before)
rows_of_no_network_are_not_answered w n rows before after (On (fits, On (room, (is, answers)))) =
    absurd (omega (arith, is))
rows_of_no_network_are_not_answered w n rows before after (On (fits, Nothing (none, is) same)) =
    absurd (omega (arith, is))
rows_of_no_network_are_not_answered w n rows before after (Nothing (not, is) same) = (not, same)

pub flags_stand_in_the_order_of_rows : WritesFlags ⊤ (λ (flag : ℕ). flag) (1 ∷ 0 ∷ []) (7 ∷ 7 ∷ 9 ∷ [])
    (1 ∷ 0 ∷ 9 ∷ []) ok
flags_stand_in_the_order_of_rows = On (tt, On (lit≤ tt, (refl, refl)))

pub no_flag_is_left_out : ¬ (WritesFlags ⊤ (λ (flag : ℕ). flag) (1 ∷ 0 ∷ []) (7 ∷ 7 ∷ 9 ∷ []) (1 ∷ 7 ∷ 9 ∷ []) ok)
no_flag_is_left_out (On (fits, On (room, (is, flags)))) =
    let second : 7 ≡ 0 = ap (λ (l : List ℕ). get_or l 1 0) flags in omega (arith, second)
no_flag_is_left_out (On (fits, Nothing (none, is) same)) = omega (arith, is)
no_flag_is_left_out (Nothing (not, is) same) = omega (arith, is)

pub one_row : (Answers : ℕ → ℕ → ℕ → ℕ → Type 0) (old new was fault : ℕ) → Answers 0 old new fault
    → AnswersEach Answers 1 (old ∷ []) (new ∷ []) (was ∷ []) (fault ∷ [])
one_row Answers old new was fault answer =
    record {
      rows = refl;
      fault_rows = refl;
      row = λ i l. let is : i ≡ 0 = omega (arith, l) in
          rw is (old, new, fault, refl, refl, refl, answer);
      rest = λ i l. slice_get_past (new ∷ []) i l ∙ sym (slice_get_past
          (old ∷ []) i l);
      fault_rest = λ i l. slice_get_past (fault ∷ []) i l ∙ sym (slice_get_past (was ∷ []) i l);
    }

-- a call that adds what it is asked to the row, and returns it
abbrev adds : ℕ → ℕ → ℕ → ℕ → Type 0
adds asked old new fault = (new ≡ old + asked) × (fault ≡ asked)

pub each_row_is_asked : AsksEach 0 adds (5 ∷ []) (7 ∷ [], 9 ∷ []) (12 ∷ [], 5 ∷ []) ok
each_row_is_asked = On ((lit≤ tt, lit≤ tt), (refl, one_row (λ i. adds (get_or (5 ∷ []) i 0)) 7 12 9 5 (refl, refl)))

pub no_row_has_the_answer_of_the_first : ¬ (AsksEach 0 adds (1 ∷ 0 ∷ []) (7 ∷ 7 ∷ [], 9 ∷ 9 ∷ [])
    (8 ∷ 8 ∷ [], 1 ∷ 1 ∷ []) ok)
no_row_has_the_answer_of_the_first (On (room, (is, rows))) = let (old, new, fault, was, now, told, answer) =
    rows.row 1 (lit< tt) in let one : 1 ≡ fault = same_Some 1 fault told in omega (arith, one, answer.1)
no_row_has_the_answer_of_the_first (Nothing (none, is) same) = omega (arith, is)

-- ---- lists of blocks

pub the_list_keeps_its_length : {C : Type 0} (held : C → Network) (c : C) → ¬ (StandInFront held [] (c ∷ []) [])
the_list_keeps_its_length held c h =
    let size = ap length h.list in
    omega (arith, size, length-append h.front (c ∷ []))

pub blocks_without_room_are_counted : {C : Type 0} (w : ℕ) (held : C → Network) (set : ℕ → Type 0) (before after : List
    C) (told_before told : ℕ) → PutsBlocks w held set (before, told_before) (after, told) short_buffer
    → (blocks : List Network) × IsLeastList w set blocks × (length before < length blocks)
    × (told ≡ min (length blocks) (2 ^ 64 - 1)) × (after ≡ before)
blocks_without_room_are_counted w held set before after told_before told
    (blocks, least, (told_is, On (room, (is, stand)))) = absurd (omega (arith, is))
blocks_without_room_are_counted w held set before after told_before told
    (blocks, least, (told_is, Nothing (none, is) same)) = (blocks, least, omega (arith, none), told_is, same)

pub blocks_with_room_are_put : {C : Type 0} (w : ℕ) (held : C → Network) (set : ℕ → Type 0) (before after : List C)
    (told_before told : ℕ) → PutsBlocks w held set (before, told_before) (after, told) ok
    → (blocks : List Network) × IsLeastList w set blocks × (told ≡ length blocks)
    × StandInFront held blocks before after
blocks_with_room_are_put w held set before after told_before told
    (blocks, least, (told_is, On (room, (is, (size_is, stand))))) = (blocks, least, size_is, stand)
blocks_with_room_are_put w held set before after told_before told (blocks, least, (told_is, Nothing (none, is) same)) =
    absurd (omega (arith, is))

pub a_range_that_is_turned_round_is_none : {C : Type 0} (w : ℕ) (held : C → Network) (before after : List C × ℕ)
    (code : ℕ) → RangeOperation w held 7 6 before after code → (code ≡ no_range) × (after ≡ before)
a_range_that_is_turned_round_is_none w held before after code (On (order, puts)) = absurd (omega (arith, order))
a_range_that_is_turned_round_is_none w held before after code (Nothing (not, is) same) = (is, same)

pub a_range_of_one_address_is_one : {C : Type 0} (w : ℕ) (held : C → Network) (before after : List C × ℕ) (code : ℕ)
    → RangeOperation w held 7 7 before after code → PutsBlocks w held (FromTo 7 7) before after code
a_range_of_one_address_is_one w held before after code (On (order, puts)) = puts
a_range_of_one_address_is_one w held before after code (Nothing (not, is) same) = absurd (not (omega arith))

-- of two blocks there is no third; there is a second
pub there_is_no_third_half : (before after : Ipv4InC) (code : ℕ) → WritesSubnet 32 HoldsV4
    (record { address = 0; prefix = 8 }) 9 2 before after code → (code ≡ no_member) × (after ≡ before)
there_is_no_third_half before after code (On (fit, On (below, (is, holds)))) = absurd (omega (arith, below))
there_is_no_third_half before after code (On (fit, Nothing (above, is) same)) = (is, same)
there_is_no_third_half before after code (Nothing (not, is) same) = absurd (not (omega arith, omega arith, omega arith))

pub there_is_a_second_half : (before after : Ipv4InC) (code : ℕ)
    → WritesSubnet 32 HoldsV4 (record { address = 0; prefix = 8 }) 9 1 before after code → code ≡ ok
there_is_a_second_half before after code (On (fit, On (below, (is, holds)))) = is
there_is_a_second_half before after code (On (fit, Nothing (above, is) same)) = absurd (above (omega arith))
there_is_a_second_half before after code (Nothing (not, is) same) = absurd (not (omega arith, omega arith, omega arith))

pub no_wider_block_lies_within : (before after : Ipv4InC) (code : ℕ) → WritesSubnet 32 HoldsV4
    (record { address = 0; prefix = 8 }) 7 0 before after code → (code ≡ prefix) × (after ≡ before)
no_wider_block_lies_within before after code (On (fit, goes)) = let from = fit.1 in absurd (omega (arith, from))
no_wider_block_lies_within before after code (Nothing (not, is) same) = (is, same)

pub an_address_is_a_block : (before after : Ipv4InC) (code : ℕ)
    → WritesSubnet 32 HoldsV4 (record { address = 0; prefix = 31 }) 32 1 before after code → code ≡ ok
an_address_is_a_block before after code (On (fit, On (below, (is, holds)))) = is
an_address_is_a_block before after code (On (fit, Nothing (above, is) same)) = absurd (above (omega arith))
an_address_is_a_block before after code (Nothing (not, is) same) = absurd (not (omega arith, omega arith, omega arith))

pub no_block_is_past_the_width : (before after : Ipv4InC) (code : ℕ)
    → WritesSubnet 32 HoldsV4 (record { address = 0; prefix = 31 }) 33 0 before after code → code ≡ prefix
no_block_is_past_the_width before after code (On ((fits, from, to), goes)) = absurd (omega (arith, to))
no_block_is_past_the_width before after code (Nothing (not, is) same) = is

-- ---- sets

pub both_lists_fit : {C : Type 0} (w : ℕ) (held : C → Network) (first second : List C) → BothFit w held first second
    → All (λ c. PrefixFits w (held c)) first × All (λ c. PrefixFits w (held c)) second
both_lists_fit w held first second h = h

pub both_lists_are_those_of_sets : {C : Type 0} (w : ℕ) (held : C → Network) (first second : List C)
    → BothAreSets w held first second → IsAddressSet w (map held first) × IsAddressSet w (map held second)
both_lists_are_those_of_sets w held first second h = h

-- the fault for a prefix length past the width comes before the one for a list that is not the list of a set
pub no_set_fits : {C : Type 0} (w : ℕ) (held : C → Network) (Leaves : List Network → List Network → ℕ → Type 0)
    (first second : List C) (before after : List C × ℕ) → SetOperation w held Leaves first second before after no_set
    → BothFit w held first second × ¬ (BothAreSets w held first second) × (after ≡ before)
no_set_fits w held Leaves first second before after
    (On (fit, On (are, (blocks, least, (told_is, On (room, (is, stand))))))) = absurd (omega (arith, is))
no_set_fits w held Leaves first second before after
    (On (fit, On (are, (blocks, least, (told_is, Nothing (none, is) same))))) = absurd (omega (arith, is))
no_set_fits w held Leaves first second before after (On (fit, Nothing (not, is) same)) = (fit, not, same)
no_set_fits w held Leaves first second before after (Nothing (not, is) same) = absurd (omega (arith, is))

pub sets_are_put_together : {C : Type 0} (w : ℕ) (held : C → Network) (Leaves : List Network → List Network → ℕ → Type
    0) (first second : List C) (before after : List C × ℕ) → SetOperation w held Leaves first second before after ok
    → BothAreSets w held first second × PutsBlocks w held (Leaves (map held first) (map held second)) before after ok
sets_are_put_together w held Leaves first second before after (On (fit, On (are, puts))) = (are, puts)
sets_are_put_together w held Leaves first second before after (On (fit, Nothing (not, is) same)) =
    absurd (omega (arith, is))
sets_are_put_together w held Leaves first second before after (Nothing (not, is) same) = absurd (omega (arith, is))

pub an_aggregate_stands_in_front : {C : Type 0} (w : ℕ) (held : C → Network) (before after : List C × ℕ)
    → Aggregates w held before after ok
    → (after.1 ≤ length before.0) × IsAggregate w (map held before.0) (map held (take after.1 after.0))
    × All (λ c. PrefixFits w (held c)) after.0
an_aggregate_stands_in_front w held before after (On (fit, (is, done))) = done
an_aggregate_stands_in_front w held before after (Nothing (not, is) same) = absurd (omega (arith, is))

pub a_refused_list_is_not_aggregated : {C : Type 0} (w : ℕ) (held : C → Network) (before after : List C × ℕ) (code : ℕ)
    → code ≢ ok → Aggregates w held before after code
    → ¬ (All (λ c. PrefixFits w (held c)) before.0) × (after ≡ before)
a_refused_list_is_not_aggregated w held before after code fault (On (fit, (is, done))) = absurd (fault is)
a_refused_list_is_not_aggregated w held before after code fault (Nothing (not, is) same) = (not, same)
