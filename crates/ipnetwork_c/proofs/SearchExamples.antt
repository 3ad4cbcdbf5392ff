-- Searches of lists in which a prefix length is past the width, and lists that would expose a misreading of the
-- definitions.
use Rattle.ipnetwork_c.proofs.Words.{◌≡◌, ◌≢◌, ℕ, zero, suc, ◌+◌, ◌<◌, ◌≤◌, ◌-◌, List, [], ◌∷◌, map, length, get_or, refl, sym, ap, subst, lit<, lit≤, ◌∙◌, arith, Some, None, All, length-map, get_or-map, slice_get_within, get_or_from_slice_get, same_Some, SharesBits, Network, Member, IsCidrBlock, block_at, InUnion, IsAddressSet, Ipv4InC, ok, prefix, no_member, v4_in, StandsAt, LastFits, PassesBy, ComesTo, First, On, Nothing, FindsIn, SetQuery, IsTable, FindsLongest, TableQuery}
use Rattle.ipnetwork_c.specs.Searches.ComesTo.{On}
use Rattle.ipnetwork_c.proofs.TableFinding.{around_both}

-- the address 0.0.0.5 and the prefix length 200
abbrev past : Network
past = record { address = 5; prefix = 200 }

abbrev past_in_c : Ipv4InC
past_in_c = record { address = 0 ∷ 0 ∷ 0 ∷ 5 ∷ []; prefix = 200 }

-- a search for 0.0.0.5 ends after this struct
stands_behind : (i : ℕ) → StandsAt (past ∷ []) 5 i → i ≡ 1
stands_behind zero h = let later : 5 < 5 = h.next past refl in absurd (omega (arith, later))
stands_behind (suc zero) h = refl
stands_behind (suc (suc i)) h = let within : suc (suc i) ≤ 1 = h.within in absurd (omega (arith, within))

does_not_fit : (i : ℕ) → i ≡ 1 → ¬ (LastFits 32 (past ∷ []) i)
does_not_fit zero is h = omega (arith, is)
does_not_fit (suc zero) is h = let fits : 200 ≤ 32 = h past (omega arith) refl in omega (arith, fits)
does_not_fit (suc (suc i)) is h = omega (arith, is)

-- the search reaches no other network
comes_to_it : (i : ℕ) → ComesTo 32 (past ∷ []) 5 i → i ≡ 1
comes_to_it i (First j stands) = stands_behind j stands
comes_to_it i (On zero shared j n comes passes shares stands) = let fits = passes.fits in
    let same : Some past ≡ Some n = passes.here in let is : 200 ≡ n.prefix = cc in absurd (omega (arith, is, fits))
comes_to_it i (On (suc k) shared j n comes passes shares stands) = let none : None ≡ Some n = passes.here in cc

pub a_set_of_a_struct_past_the_width_is_refused : (before after code : ℕ)
    → SetQuery 32 v4_in (past_in_c ∷ []) 5 before after code → (code ≡ prefix) × (after ≡ before)
a_set_of_a_struct_past_the_width_is_refused before after code (i, stands, On (fits, (is, finds))) =
    absurd (does_not_fit i (stands_behind i stands) fits)
a_set_of_a_struct_past_the_width_is_refused before after code (i, stands, Nothing (not, is) same) = (is, same)

pub a_table_of_a_struct_past_the_width_is_refused : (before after code : ℕ)
    → TableQuery 32 v4_in (past_in_c ∷ []) 5 before after code → (code ≡ prefix) × (after ≡ before)
a_table_of_a_struct_past_the_width_is_refused before after code (i, comes, On (fits, goes)) =
    absurd (does_not_fit i (comes_to_it i comes) fits)
a_table_of_a_struct_past_the_width_is_refused before after code (i, comes, Nothing (not, is) same) = (is, same)

-- lists whose prefix lengths fit are not refused
last_of_what_fits : (list : List Ipv4InC) (i : ℕ) → All (λ c. c.prefix ≤ 32) list → LastFits 32 (map v4_in list) i
last_of_what_fits list i fit n some there =
    let within : i - 1 < length (map v4_in list) = slice_get_within (map v4_in list) (i - 1) n there in
    let size = length-map list v4_in in
    let d : Ipv4InC = record { address = []; prefix = 0 } in
    let is : get_or (map v4_in list) (i - 1) n ≡ n = get_or_from_slice_get (map v4_in list) (i - 1) n n there in
    let at : get_or (map v4_in list) (i - 1) n ≡ v4_in (get_or list (i - 1) d) =
    get_or-map v4_in list (i - 1) d n (omega (arith, within, size)) in
    let same = ap (λ (m : Network). m.prefix) (sym is ∙ at) in
    let most : (get_or list (i - 1) d).prefix ≤ 32 = fit (i - 1) d (omega (arith, within, size)) in
    omega (arith, same, most)

pub a_set_that_fits_is_not_refused : (list : List Ipv4InC) (x before after : ℕ) → All (λ c. c.prefix ≤ 32) list
    → ¬ (SetQuery 32 v4_in list x before after prefix)
a_set_that_fits_is_not_refused list x before after fit (i, stands, On (fits, (is, finds))) = omega (arith, is)
a_set_that_fits_is_not_refused list x before after fit (i, stands, Nothing (not, is) same) =
    not (last_of_what_fits list i fit)

pub a_table_that_fits_is_not_refused : (list : List Ipv4InC) (x before after : ℕ) → All (λ c. c.prefix ≤ 32) list
    → ¬ (TableQuery 32 v4_in list x before after prefix)
a_table_that_fits_is_not_refused list x before after fit (i, comes, On (fits, Nothing (none, is) same)) =
    omega (arith, is)
a_table_that_fits_is_not_refused list x before after fit (i, comes, On (fits, On (is, finds))) = omega (arith, is)
a_table_that_fits_is_not_refused list x before after fit (i, comes, Nothing (not, is) same) =
    not (last_of_what_fits list i fit)

-- 10.1.0.0/16 has the address: the search does not continue to the struct before it
abbrev past_wide : Network
past_wide = record { address = 0x0a000000; prefix = 200 }

abbrev narrow : Network
narrow = record { address = 0x0a010000; prefix = 16 }

stands_behind_both : (i : ℕ) → StandsAt (past_wide ∷ narrow ∷ []) 0x0a010001 i → i ≡ 2
stands_behind_both zero h = let later : 0x0a010001 < 0x0a000000 = h.next past_wide refl in absurd (omega (arith, later))
stands_behind_both (suc zero) h = let later : 0x0a010001 < 0x0a010000 = h.next narrow refl in
    absurd (omega (arith, later))
stands_behind_both (suc (suc zero)) h = refl
stands_behind_both (suc (suc (suc i))) h = let within : suc (suc (suc i)) ≤ 2 = h.within in
    absurd (omega (arith, within))

stays_at_the_first : (i : ℕ) → ComesTo 32 (past_wide ∷ narrow ∷ []) 0x0a010001 i → i ≡ 2
stays_at_the_first i (First j stands) = stands_behind_both j stands
stays_at_the_first i (On zero shared j n comes passes shares stands) = let fits = passes.fits in
    let same : Some past_wide ≡ Some n = passes.here in let is : 200 ≡ n.prefix = cc in absurd (omega (arith, is, fits))
stays_at_the_first i (On (suc zero) shared j n comes passes shares stands) =
    let same : Some narrow ≡ Some n = passes.here in
    absurd (passes.has_not (subst (λ (m : Network). Member 32 m 0x0a010001) (same_Some _ _ same) (lit< tt, refl)))
stays_at_the_first i (On (suc (suc k)) shared j n comes passes shares stands) =
    let none : None ≡ Some n = passes.here in cc

pub a_struct_that_the_search_does_not_come_to_is_not_judged : (before after : ℕ)
    → ¬ (TableQuery 32 v4_in (record { address = 10 ∷ 0 ∷ 0 ∷ 0 ∷ []; prefix = 200 }
    ∷ record { address = 10 ∷ 1 ∷ 0 ∷ 0 ∷ []; prefix = 16 } ∷ []) 0x0a010001 before after prefix)
a_struct_that_the_search_does_not_come_to_is_not_judged before after (i, comes, On (fits, Nothing (none, is) same)) =
    omega (arith, is)
a_struct_that_the_search_does_not_come_to_is_not_judged before after (i, comes, On (fits, On (is, finds))) =
    omega (arith, is)
a_struct_that_the_search_does_not_come_to_is_not_judged before after (i, comes, Nothing (not, is) same) =
    not (subst (LastFits 32 (past_wide ∷ narrow ∷ [])) (sym (stays_at_the_first i comes)) (λ n some there.
    let told : Some narrow ≡ Some n = there in let prefix_is : 16 ≡ n.prefix = cc in omega (arith, prefix_is)))

-- 10.2.0.0 is not in 10.1.0.0/16: the search continues to the struct before it, which begins no later than a block that
-- has both
comes_to_the_first_too : (i : ℕ) → ComesTo 32 (past_wide ∷ narrow ∷ []) 0x0a020000 i → 0 < i
comes_to_the_first_too i (First j stands) = first j stands
  where
    first : (j : ℕ) → StandsAt (past_wide ∷ narrow ∷ []) 0x0a020000 j → 0 < j
    first zero h = let later : 0x0a020000 < 0x0a000000 = h.next past_wide refl in absurd (omega (arith, later))
    first (suc j) h = omega arith
comes_to_the_first_too i (On zero shared j n comes passes shares stands) = let fits = passes.fits in
    let same : Some past_wide ≡ Some n = passes.here in let is : 200 ≡ n.prefix = cc in absurd (omega (arith, is, fits))
comes_to_the_first_too i (On (suc zero) shared j n comes passes shares stands) =
    let same : Some narrow ≡ Some n = passes.here in
    let address_is = ap (λ (m : Network). m.address) (same_Some _ _ same) in
    let shared_by = subst (λ (a : ℕ). SharesBits 32 a 0x0a020000 shared) (sym address_is) shares in
    let wide : Network = record { address = 0x0a000000; prefix = 8 } in
    let is : IsCidrBlock 32 wide =
    record { network = record { address_fits = lit< tt; prefix_fits = lit≤ tt }; block = refl } in
    let begins = around_both 32 wide 0x0a010000 0x0a020000 shared is (lit< tt) (lit< tt, refl) (lit≤ tt) (lit≤ tt)
    shared_by in
    behind j begins stands
  where
    behind : (j : ℕ) → 0x0a000000 ≤ (block_at 32 0x0a020000 shared).address
        → StandsAt (past_wide ∷ []) (block_at 32 0x0a020000 shared).address j → 0 < j
    behind zero from h = let later = h.next past_wide refl in absurd (omega (arith, from, later))
    behind (suc j) from h = omega arith
comes_to_the_first_too i (On (suc (suc k)) shared j n comes passes shares stands) =
    let none : None ≡ Some n = passes.here in cc

pub a_struct_around_the_address_is_judged : (before after : ℕ)
    → ¬ (TableQuery 32 v4_in (record { address = 10 ∷ 0 ∷ 0 ∷ 0 ∷ []; prefix = 200 }
    ∷ record { address = 10 ∷ 1 ∷ 0 ∷ 0 ∷ []; prefix = 16 } ∷ []) 0x0a020000 before after no_member)
a_struct_around_the_address_is_judged before after (i, comes, On (fits, Nothing (none, is) same)) =
    let some = comes_to_the_first_too i comes in omega (arith, some, none.0)
a_struct_around_the_address_is_judged before after (i, comes, On (fits, On (is, finds))) = omega (arith, is)
a_struct_around_the_address_is_judged before after (i, comes, Nothing (not, is) same) = omega (arith, is)

pub no_search_stands_behind_a_later_address : ¬ (StandsAt (past ∷ []) 4 1)
no_search_stands_behind_a_later_address h = let before : 5 ≤ 4 = h.last past (omega arith) refl in omega (arith, before)

-- a search goes past a block without the address, but not past the block of all addresses
pub a_block_without_the_address_is_passed : PassesBy 32 (past_wide ∷ narrow ∷ []) 0x0a020000 1 narrow
a_block_without_the_address_is_passed =
    record { here = refl; fits = lit≤ tt; has_not = λ m. let same : 0x0a02 ≡ 0x0a01 = m.1 in omega (arith, same) }

pub a_block_of_all_is_not_passed : ¬ (PassesBy 32 (record { address = 0; prefix = 0 } ∷ []) 0xffffffff 0
    (record { address = 0; prefix = 0 }))
a_block_of_all_is_not_passed h = h.has_not (lit< tt, refl)

-- ---- results of a search

pub a_set_is_answered : {C : Type 0} (w : ℕ) (held : C → Network) (list : List C) (x before after : ℕ)
    → SetQuery w held list x before after ok → FindsIn w (map held list) x after
a_set_is_answered w held list x before after (i, stands, On (fits, (is, finds))) = finds
a_set_is_answered w held list x before after (i, stands, Nothing (not, is) same) = absurd (omega (arith, is))

pub no_member_of_a_table_is_none : {C : Type 0} (w : ℕ) (held : C → Network) (list : List C) (x before after : ℕ)
    → TableQuery w held list x before after no_member → IsTable w (map held list) → ¬ (InUnion w (map held list) x)
no_member_of_a_table_is_none w held list x before after (i, comes, On (fits, Nothing (none, is) same)) = none.1
no_member_of_a_table_is_none w held list x before after (i, comes, On (fits, On (is, finds))) =
    absurd (omega (arith, is))
no_member_of_a_table_is_none w held list x before after (i, comes, Nothing (not, is) same) = absurd (omega (arith, is))

pub an_answer_is_one_or_zero : (w : ℕ) (networks : List Network) (x : ℕ) → ¬ (FindsIn w networks x 2)
an_answer_is_one_or_zero w networks x h = let most = h.flag in omega (arith, most)

pub an_address_of_none_is_not_found : (w x : ℕ) → ¬ (FindsIn w [] x 1)
an_address_of_none_is_not_found w x h = let c = h.found refl in let within : c.1.0 < 0 = c.1.1 in omega (arith, within)

pub an_address_of_a_set_is_found : (w : ℕ) (networks : List Network) (x : ℕ) → IsAddressSet w networks
    → InUnion w networks x → ¬ (FindsIn w networks x 0)
an_address_of_a_set_is_found w networks x set there h = h.missed set refl there

pub an_index_is_not_changed_after_a_fault : (list : List Ipv4InC) (x before after code : ℕ) → code ≢ ok
    → TableQuery 32 v4_in list x before after code → after ≡ before
an_index_is_not_changed_after_a_fault list x before after code fault (i, comes, On (fits, Nothing none same)) = same
an_index_is_not_changed_after_a_fault list x before after code fault (i, comes, On (fits, On (is, finds))) =
    absurd (fault is)
an_index_is_not_changed_after_a_fault list x before after code fault (i, comes, Nothing not same) = same

-- the index found is the one before the end of the search
pub the_index_is_that_of_the_end : (list : List Ipv4InC) (x before after : ℕ)
    → TableQuery 32 v4_in list x before after ok → ComesTo 32 (map v4_in list) x (after + 1)
    × LastFits 32 (map v4_in list) (after + 1) × FindsLongest 32 (map v4_in list) x after
the_index_is_that_of_the_end list x before after (i, comes, On (fits, Nothing (none, is) same)) =
    absurd (omega (arith, is))
the_index_is_that_of_the_end list x before after (i, comes, On (fits, On (is, (end, finds)))) =
    (subst (ComesTo 32 (map v4_in list) x) end comes, subst (LastFits 32 (map v4_in list)) end fits, finds)
the_index_is_that_of_the_end list x before after (i, comes, Nothing (not, is) same) = absurd (omega (arith, is))
