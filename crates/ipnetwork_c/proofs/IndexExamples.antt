-- Indexes of a list of two networks, and their parts: with another number they are no indexes of the list.
use Rattle.ipnetwork_c.proofs.Words.{◌≡◌, ℕ, zero, suc, ◌+◌, ◌*◌, ◌/◌, ◌^◌, ◌<◌, ◌≤◌, List, [], ◌∷◌, length, map, get_or, refl, subst, arith, min, pow-lt, pow_pos, le-div, Network, ok, short_buffer, number_of_octets, On, Nothing, AnswersEach, SetQuery, address_at, span, AreLeastParts, BeginBefore, IsIndexOf, MakesIndex, SetRows}

abbrev two : List Network
two = record { address = 10; prefix = 128 } ∷ record { address = 20; prefix = 128 } ∷ []

pub one_begins_before_18 : (i : ℕ) → BeginBefore two 18 i → i ≡ 1
one_begins_before_18 zero h = let n = h.next (record { address = 10; prefix = 128 }) refl in absurd (omega (arith, n))
one_begins_before_18 (suc zero) h = refl
one_begins_before_18 (suc (suc zero)) h = let l = h.last (record { address = 20; prefix = 128 }) (omega arith) refl in
    absurd (omega (arith, l))
one_begins_before_18 (suc (suc (suc i))) h = absurd (omega (arith, h.within))

-- a network that begins at the number does not begin before it
pub none_begins_before_10 : ¬ (BeginBefore two 10 1)
none_begins_before_10 h = let l = h.last (record { address = 10; prefix = 128 }) (omega arith) refl in omega (arith, l)

-- with parts of four, the second network would be in a third part, and parts of sixteen are not the least
pub two_parts_have_eight : (shift : ℕ) → AreLeastParts two 2 shift → shift ≡ 3
two_parts_have_eight zero h = absurd (omega (arith, h.enough))
two_parts_have_eight (suc zero) h = absurd (omega (arith, h.enough))
two_parts_have_eight (suc (suc zero)) h = absurd (omega (arith, h.enough))
two_parts_have_eight (suc (suc (suc zero))) h = refl
two_parts_have_eight (suc (suc (suc (suc i)))) h = let l = h.least 3 (omega arith) in absurd (omega (arith, l))

pub the_index_of_two : (size start : ℕ) → IsIndexOf two (size ∷ start ∷ []) → (size ≡ 3) × (start ≡ 1)
the_index_of_two size start h = (shift_is, start_is)
  where
    shift_is : size ≡ 3
    shift_is = two_parts_have_eight size (h.size (omega arith))

    start_is : start ≡ 1
    start_is =
        let one = h.starts 1 (omega arith) (omega arith) in
        let begins : BeginBefore two 18 one.0 =
        subst (λ (k : ℕ). BeginBefore two (10 + 1 * 2 ^ k) one.0) shift_is one.1 in
        let i : one.0 ≡ 1 = one_begins_before_18 one.0 begins in
        let is : start ≡ min one.0 4294967295 = one.2 in
        omega (arith, i, is)

-- the least part that has both networks: its size is the number in an index of length one
pub one_part_has_sixteen : (shift : ℕ) → AreLeastParts two 1 shift → shift ≡ 4
one_part_has_sixteen zero h = absurd (omega (arith, h.enough))
one_part_has_sixteen (suc zero) h = absurd (omega (arith, h.enough))
one_part_has_sixteen (suc (suc zero)) h = absurd (omega (arith, h.enough))
one_part_has_sixteen (suc (suc (suc zero))) h = absurd (omega (arith, h.enough))
one_part_has_sixteen (suc (suc (suc (suc zero)))) h = refl
one_part_has_sixteen (suc (suc (suc (suc (suc i))))) h = let l = h.least 4 (omega arith) in absurd (omega (arith, l))

pub the_index_of_one_number : (size : ℕ) → IsIndexOf two (size ∷ []) → size ≡ 4
the_index_of_one_number size h = one_part_has_sixteen size (h.size (omega arith))

-- for networks at the first and the last address it is the size of all addresses
abbrev ends : List Network
ends = record { address = 0; prefix = 128 } ∷ record { address = 0xffffffffffffffffffffffffffffffff; prefix = 128 } ∷ []

pub one_part_has_all_addresses : (size : ℕ) → IsIndexOf ends (size ∷ []) → size ≡ 128
one_part_has_all_addresses size h =
    let parts : AreLeastParts ends 1 size = h.size (omega arith) in
    let not_less : ¬ (size < 128) = λ less.
    let power : 2 ^ size < 0x100000000000000000000000000000000 = pow-lt less in
    let some : 1 ≤ 0xffffffffffffffffffffffffffffffff / 2 ^ size =
    le-div 1 0xffffffffffffffffffffffffffffffff (2 ^ size) (pow_pos size) (omega (arith, power)) in
    let enough : 0xffffffffffffffffffffffffffffffff / 2 ^ size < 1 = parts.enough in
    omega (arith, some, enough)
    in
    let not_more : ¬ (128 < size) = λ more. let least : 1 ≤ 0 = parts.least 128 more in omega (arith, least) in
    omega (arith, not_less, not_more)

-- each row of a column has its own answer, and without room no answer is written
pub rows_without_room_have_no_answer : {C : Type 0} (w : ℕ) (held : C → Network) (list : List C) (asked : List (List ℕ))
    (before after : List ℕ × List ℕ) → SetRows w held list asked before after short_buffer
    → ¬ ((length asked ≤ length before.0) × (length asked ≤ length before.1)) × (after ≡ before)
rows_without_room_have_no_answer w held list asked before after (On (room, (is, rows))) = absurd (omega (arith, is))
rows_without_room_have_no_answer w held list asked before after (Nothing (none, is) same) = (none, same)

pub rows_with_room_have_answers : {C : Type 0} (w : ℕ) (held : C → Network) (list : List C) (asked : List (List ℕ))
    (before after : List ℕ × List ℕ) → SetRows w held list asked before after ok
    → AnswersEach (λ i. SetQuery w held list (number_of_octets (get_or asked i []))) (length asked) before.0 after.0
    before.1 after.1
rows_with_room_have_answers w held list asked before after (On (room, (is, rows))) = rows
rows_with_room_have_answers w held list asked before after (Nothing (none, is) same) = absurd (omega (arith, is))

-- an index is written over the whole of its memory, and no further
pub an_index_keeps_its_length : {C : Type 0} (held : C → Network) (list : List C) (before after : List ℕ) (code : ℕ)
    → MakesIndex held list before after code → (code ≡ ok) × (length after ≡ length before)
an_index_keeps_its_length held list before after code h = (h.0, h.1.0)

pub addresses_at_places : map (address_at two) (0 ∷ 1 ∷ 2 ∷ []) ≡ 10 ∷ 20 ∷ 0 ∷ []
addresses_at_places = refl

pub spans : span [] ∷ span two ∷ span ends ∷ [] ≡ 0 ∷ 10 ∷ 0xffffffffffffffffffffffffffffffff ∷ []
spans = refl
