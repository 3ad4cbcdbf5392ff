-- Ranges that would expose a misreading of `IsCut`, `IsLongestAt`, `place_before` or `AreRangesOf`: of 10.0.0.0/8, and
-- 10.1.0.0/16 twice.
use Rattle.ipnetwork_c.proofs.Words.{◌≡◌, ℕ, zero, suc, ◌<◌, ◌≤◌, List, [], ◌∷◌, length, map, get_or, refl, ap, subst, inl, inr, lit<, lit≤, arith, ⊎_elim, Network, none-some, same_Some, contains_nil, FindsLongest, InUnion, ok, no_member, On, Nothing, IsTable, StandsAt, no_place, place_before, EndsAt, IsCut, IsLongestAt, AreRangesOf, AreMadeOf, MakesRanges, MakesNumberedRanges, PlaceQuery, RangeQuery, RangeRows, number_at}
use Rattle.std.proofs.Common.{replicate}
use Rattle.ipnetwork_c.proofs.ColumnExamples.{one_row}
use Rattle.ipnetwork_c.proofs.TableExamples.{nested, nested_is_a_table, the_last_of_the_longest_is_found, no_wider_block_is_found}

abbrev wide : Network
wide = record { address = 0x0a000000; prefix = 8 }

abbrev narrow : Network
narrow = record { address = 0x0a010000; prefix = 16 }

-- a range begins where a block begins, and after a block
pub one_begins_with_a_block : IsCut 32 nested 0x0a010000
one_begins_with_a_block = (narrow, (1, lit< tt, refl), inl refl)

pub one_begins_after_a_block : IsCut 32 nested 0x0b000000
one_begins_after_a_block = (wide, (0, lit< tt, refl), inr refl)

-- no range begins at the last address of a block
pub none_begins_at_an_end : ¬ (EndsAt 32 wide 0x0affffff)
none_begins_at_an_end e = ⊎_elim (λ (f : 0x0affffff ≡ 0x0a000000). omega (arith, f))
    (λ (l : 0x0affffff ≡ 0x0b000000). omega (arith, l)) e

-- the place is that of the last of the first i ranges
pub the_place_of_the_second_range : place_before (0 ∷ 2 ∷ 0 ∷ []) 2 ≡ 2
the_place_of_the_second_range = refl

pub no_place_before_the_first : place_before (0 ∷ 2 ∷ 0 ∷ []) 0 ≡ 18446744073709551615
no_place_before_the_first = refl

pub no_place_past_the_last : place_before (0 ∷ 2 ∷ 0 ∷ []) 4 ≡ no_place
no_place_past_the_last = refl

-- for 10.1.2.3 it is that of the last of the longest blocks
pub the_longest_stands_there : IsLongestAt 32 nested 0x0a010203 2
the_longest_stands_there = inl (lit< tt, the_last_of_the_longest_is_found)

-- for 10.1.2.3 it is no other place, and not `no_place`
pub no_wider_one_stands_there : ¬ (IsLongestAt 32 nested 0x0a010203 0)
no_wider_one_stands_there h = ⊎_elim (λ (f : (0 < no_place) × FindsLongest 32 nested 0x0a010203 0).
    no_wider_block_is_found f.1) (λ (n : (0 ≡ no_place) × _). let none = n.0 in omega (arith, none)) h

narrow_has_it : InUnion 32 nested 0x0a010203
narrow_has_it = (narrow, (1, lit< tt, refl), (lit< tt, refl))

pub none_is_missed : ¬ (IsLongestAt 32 nested 0x0a010203 no_place)
none_is_missed h =
    ⊎_elim
    (λ (f : (no_place < no_place) × _). let less = f.0 in omega (arith, less))
    (λ (n : (no_place ≡ no_place) × _). n.1 nested_is_a_table narrow_has_it)
    h

-- no range is missing, and none is there without a network that begins or ends there
pub no_range_is_left_out : ¬ (AreRangesOf 32 (wide ∷ []) [] [])
no_range_is_left_out r = contains_nil 0x0b000000 (r.cut 0x0b000000 (lit< tt) (wide, (0, lit< tt, refl), inr refl))

pub no_range_without_a_network : ¬ (AreRangesOf 32 [] (record { address = 0x0a000000; prefix = 32 } ∷ [])
    (no_place ∷ []))
no_range_without_a_network r = let few : 1 ≤ 0 = r.few in omega (arith, few)

-- of no network there is no range: 0 is written, and the lists are unchanged
abbrev as_it_is : Network → Network
as_it_is n = n

no_ranges : AreRangesOf 32 [] [] []
no_ranges =
    record {
      few = lit≤ tt;
      rows = refl;
      alone = λ i d l. absurd (omega (arith, l));
      ascending = λ i j d l m.
          absurd (omega (arith, m));
      cut = λ a fits c. absurd (contains_nil c.0 c.1);
      only = λ a c. absurd (contains_nil a c);
      answers = λ x i fits s. let is : i ≡ 0 = omega (arith, s.within) in
          rw is (inr (refl, λ t u. contains_nil u.0 u.1));
    }

none_made : AreMadeOf 32 [] [] []
none_made = record { ranges_of = no_ranges; each = λ i l. absurd (omega (arith, l)) }

-- a range has the place of a network even if the next one begins at the same address
abbrev all : Network
all = record { address = 0; prefix = 0 }

pub no_place_of_another : ¬ (AreMadeOf 32 (all ∷ []) (record { address = 0; prefix = 32 }
    ∷ record { address = 0; prefix = 32 } ∷ []) (5 ∷ 0 ∷ []))
no_place_of_another made =
    ⊎_elim
    (λ (f : (5 < no_place) × FindsLongest 32 (all ∷ []) 0 5). let within = f.1.within in omega (arith, within))
    (λ (n : (5 ≡ no_place) × (IsTable 32 (all ∷ []) → ¬ (InUnion 32 (all ∷ []) 0))). let is = n.0 in omega (arith, is))
    (made.each 0 (lit< tt))

pub ranges_of_none_are_none : MakesRanges 32 as_it_is [] ((narrow ∷ [], 5 ∷ []), 9) ((narrow ∷ [], 5 ∷ []), 0) ok
ranges_of_none_are_none =
    On (
      (λ i d l. absurd (omega (arith, l))),
      On ((lit≤ tt, lit≤ tt), (refl, (refl, refl, lit≤ tt, none_made, refl, refl))),
    )

pub ranges_are_put : ¬ (MakesRanges 32 as_it_is (wide ∷ []) ((narrow ∷ narrow ∷ [], 5 ∷ 6 ∷ []), 9)
    ((narrow ∷ narrow ∷ [], 5 ∷ 6 ∷ []), 0) ok)
ranges_are_put (On (fit, On (room, (is, (sizes, places, few, are, rest, places_rest))))) =
    no_range_is_left_out are.ranges_of
ranges_are_put (On (fit, Nothing (none, is) same)) = omega (arith, is)
ranges_are_put (Nothing (not, is) same) = omega (arith, is)

pub numbers_of_none_are_none : MakesNumberedRanges 32 as_it_is [] [] ((narrow ∷ [], 5 ∷ []), 9)
    ((narrow ∷ [], 5 ∷ []), 0) ok
numbers_of_none_are_none =
    On (
      lit≤ tt,
      On (
        (λ i d l. absurd (omega (arith, l))),
        On ((lit≤ tt, lit≤ tt), (refl, (refl, refl, lit≤ tt, ([], none_made, refl), refl, refl))),
      ),
    )

-- the only number of 10.0.0.0/8 is 500, so its place, 0, is not written next to a range
no_place_is_put : (places : List ℕ) → length places ≡ 2 → ¬ (0 ∷ no_place ∷ [] ≡ map (number_at (500 ∷ [])) places)
no_place_is_put [] size is = omega (arith, size)
no_place_is_put (zero ∷ more) size is = let put : 0 ≡ 500 = ap (λ (l : List ℕ). get_or l 0 0) is in omega (arith, put)
no_place_is_put (suc place ∷ more) size is = let put : 0 ≡ no_place = ap (λ (l : List ℕ). get_or l 0 0) is in
    omega (arith, put)

pub numbers_are_put : ¬ (MakesNumberedRanges 32 as_it_is (wide ∷ []) (500 ∷ [])
    ((narrow ∷ narrow ∷ [], 5 ∷ 6 ∷ []), 9) (
      (
        record { address = 0x0a000000; prefix = 32 } ∷ record { address = 0x0b000000; prefix = 32 } ∷ [],
        0 ∷ no_place
            ∷ [],
      ),
      2,
    ) ok)
numbers_are_put
    (On (numbered, On (fit, On (room, (is, (sizes, numbers, few, (places, are, put), rest, numbers_rest)))))) =
    no_place_is_put places are.ranges_of.rows put
numbers_are_put (On (numbered, On (fit, Nothing (none, is) same))) = omega (arith, is)
numbers_are_put (On (numbered, Nothing (not, is) same)) = omega (arith, is)
numbers_are_put (Nothing (none, is) same) = omega (arith, is)

-- the last address is found in a range that begins at the first
abbrev first : Network
first = record { address = 0; prefix = 32 }

last_stands : StandsAt (first ∷ []) 0xffffffff 1
last_stands = record {
  within = lit≤ tt;
  last = λ n some there. subst (λ (m : Network). m.address ≤ 0xffffffff) (same_Some first n there) (lit≤ tt);
  next = λ n there. absurd (none-some n there);
}

pub the_last_address_is_found : RangeRows as_it_is (first ∷ []) (0 ∷ []) (replicate 4 255 ∷ []) (7 ∷ [], 9 ∷ [])
    (0 ∷ [], ok ∷ []) ok
the_last_address_is_found =
    On ((lit≤ tt, lit≤ tt), (refl, one_row _ 7 0 9 ok (1, last_stands, On (refl, (lit< tt, refl)))))

pub its_place_is_that_of_the_range : PlaceQuery as_it_is (first ∷ []) (5 ∷ []) 0xffffffff 5
its_place_is_that_of_the_range = (1, last_stands, refl)

pub no_other_place_is_told : ¬ (PlaceQuery as_it_is (first ∷ []) (5 ∷ []) 0xffffffff no_place)
no_other_place_is_told (zero, stands, is) = let later = stands.next first refl in omega (arith, later)
no_other_place_is_told (suc zero, stands, is) = let place : no_place ≡ 5 = is in omega (arith, place)
no_other_place_is_told (suc (suc i), stands, is) = let within = stands.within in omega (arith, within)

pub it_is_not_missed : ¬ (RangeRows as_it_is (first ∷ []) (0 ∷ []) (replicate 4 255 ∷ []) (7 ∷ [], 9 ∷ [])
    (7 ∷ [], no_member ∷ []) ok)
it_is_not_missed (Nothing (none, is) same) = omega (arith, is)
it_is_not_missed (On (room, (is, rows))) = let (old, new, fault, was, now, told, query) = rows.row 0 (lit< tt) in
    missed old new fault (same_Some no_member fault told) query
  where
    missed : (old new fault : ℕ) → no_member ≡ fault
        → ¬ (RangeQuery as_it_is (first ∷ []) (0 ∷ []) 0xffffffff old new fault)
    missed old new fault told (i, stands, On (is, found)) = omega (arith, told, is)
    missed old new fault told (zero, stands, Nothing (none, is) same) = let later = stands.next first refl in
        omega (arith, later)
    missed old new fault told (suc zero, stands, Nothing (none, is) same) = let place : 0 ≡ no_place = none in
        omega (arith, place)
    missed old new fault told (suc (suc i), stands, Nothing (none, is) same) = let within = stands.within in
        omega (arith, within)

-- numbered ranges give the number at the place of the last of the longest, and `no_place`
abbrev numbers : List ℕ
numbers = 500 ∷ 0 ∷ 7 ∷ []
