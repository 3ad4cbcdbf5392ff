-- What follows from the laws but would not from weaker ones, for a table of addresses of three bits.
use Rattle.ipnetwork_table.proofs.Words.{◌≡◌, ℕ, zero, suc, ◌/◌, ◌<◌, Option, Some, None, List, [], ◌∷◌, slice_get, sym, refl, ap, subst, ◌∙◌, arith, lit<, lit≤, ⊎_elim, IsSome, FinMap, get, insert, remove, empty, entries, from_entries, Network, Member, network_cmp, BlocksOfAnyWidthThatMeet, AnswerIsComputed, AnswerExists, AnswerIsOne, EmptyHasNoHostBits, InsertAddsNoHostBits, RemoveAddsNoHostBits, InsertSetsOne, RemoveTakesOne, ListedIsStored, StoredIsListed, EntriesAscend, WiderBlocksFirst, HasOnlyBlocks, HasNoHostBits, Answers, longest_of}
use Rattle.ipnetwork_table.proofs.Longest.{new_table, with_block}
use Rattle.ipnetwork_table.proofs.Pairs.{entries_of_sorted}

abbrev pub net : ℕ → ℕ → Network
net address prefix = record { address = address; prefix = prefix }

abbrev pub Table : Type 0
Table = FinMap network_cmp ℕ

abbrev pub routes : List (Network × ℕ)
routes = (net 0 0, 5) ∷ (net 4 1, 7) ∷ (net 4 3, 9) ∷ []

abbrev table : Table
table = from_entries routes

listed : entries table ≡ routes
listed = entries_of_sorted routes tt

pub blocks : HasOnlyBlocks 3 table
blocks =
    with_block 3 _ (net 0 0) 5
    (record { network = record { address_fits = lit< tt; prefix_fits = lit≤ tt }; block = refl })
    (with_block 3 _ (net 4 1) 7
    (record { network = record { address_fits = lit< tt; prefix_fits = lit≤ tt }; block = refl })
    (with_block 3 _ (net 4 3) 9
    (record { network = record { address_fits = lit< tt; prefix_fits = lit≤ tt }; block = refl })
    (new_table 3 ℕ)))

at : (i : ℕ) (entry : Network × ℕ) → slice_get routes i ≡ Some entry → slice_get (entries table) i ≡ Some entry
at i entry is = ap (λ (es : List (Network × ℕ)). slice_get es i) listed ∙ is

abbrev value : Option (Network × ℕ) → ℕ
value None = 0
value (Some found) = found.1

other_prefix : net 4 3 ≡ net 4 1 → ⊥
other_prefix e = let same : 3 ≡ 1 = ap (λ (n : Network). n.prefix) e in omega (arith, same)

other_address : net 0 1 ≡ net 4 1 → ⊥
other_address e = let same : 0 ≡ 4 = ap (λ (n : Network). n.address) e in omega (arith, same)

-- the two halves of all addresses have no address in common
pub halves_share_nothing : BlocksOfAnyWidthThatMeet → (x : ℕ) → Member 3 (net 0 1) x → Member 3 (net 4 1) x → ⊥
halves_share_nothing law x lower upper =
    let same : 0 ≡ 4 = ap (λ (n : Network). n.address) (law 3 (net 0 1) (net 4 1) x refl refl refl lower upper) in
    omega (arith, same)

-- an address is found in the longest of the two blocks that hold it, which is neither the first nor the last entry
pub six_is_in_the_half : AnswerIsComputed ℕ → Answers 3 table 6 (Some (net 4 1, 7))
six_is_in_the_half law = subst (λ (es : List (Network × ℕ)). Answers 3 table 6 (longest_of 3 6 es)) listed
    (law 3 table 6)

-- an address is found in no other block
pub six_is_in_one : AnswerIsComputed ℕ → AnswerIsOne ℕ → HasNoHostBits 3 table
    → Answers 3 table 6 (Some (net 0 0, 5)) → ⊥
six_is_in_one computed one clear other =
    let same : 7 ≡ 5 = ap value (one 3 table 6 (Some (net 4 1, 7)) (Some (net 0 0, 5)) clear
    (six_is_in_the_half computed) other) in omega (arith, same)

-- a number that is not an address has a result too: nothing
pub nine_is_in_none : (exists : AnswerExists ℕ) → AnswerIsOne ℕ → HasNoHostBits 3 table
    → (exists 3 table 9 blocks).0 ≡ None
nine_is_in_none exists one clear =
    let found = exists 3 table 9 blocks in
    one 3 table 9 found.0 None clear found.1 (λ n stored holds. let fits = holds.0 in omega (arith, fits))

-- a number that is an address has a result
pub six_has_a_result : (exists : AnswerExists ℕ) → AnswerIsComputed ℕ → AnswerIsOne ℕ → HasNoHostBits 3 table
    → (exists 3 table 6 blocks).0 ≡ Some (net 4 1, 7)
six_has_a_result exists computed one clear =
    let found = exists 3 table 6 blocks in
    one 3 table 6 found.0 (Some (net 4 1, 7)) clear found.1 (six_is_in_the_half computed)

abbrev changed : Table
changed = remove (insert (insert empty (net 4 1) 7) (net 4 3) 9) (net 0 0)

-- networks given with host bits, a removal and the empty table leave only keys without host bits
pub host_bits_stay_out : EmptyHasNoHostBits ℕ → InsertAddsNoHostBits ℕ → RemoveAddsNoHostBits ℕ
    → IsSome {T = ℕ} (get changed (net 6 1)) → ⊥
host_bits_stay_out none one_more one_less stored =
    let clear : 6 ≡ 4 =
    one_less 3 _ (net 0 0) (one_more 3 _ (net 4 3) 9 (one_more 3 empty (net 6 1) 7 (none 3))) (net 6 1) stored in
    omega (arith, clear)

-- an insertion changes one key, and not the others with its address or its prefix length
pub one_is_set : InsertSetsOne ℕ → (get (insert table (net 4 1) 8) (net 4 1) ≡ Some 8)
    × (get (insert table (net 4 1) 8) (net 4 3) ≡ get table (net 4 3))
    × (get (insert table (net 4 1) 8) (net 0 1) ≡ get table (net 0 1))
one_is_set law =
    let set = law table (net 4 1) 8 in (set.0, set.1 (net 4 3) other_prefix, set.1 (net 0 1) other_address)

-- a removal changes one key, and not the others with its address or its prefix length
pub one_is_taken : RemoveTakesOne ℕ → (get (remove table (net 4 1)) (net 4 1) ≡ None)
    × (get (remove table (net 4 1)) (net 4 3) ≡ get table (net 4 3))
    × (get (remove table (net 4 1)) (net 0 1) ≡ get table (net 0 1))
one_is_taken law =
    let taken = law table (net 4 1) in (taken.0, taken.1 (net 4 3) other_prefix, taken.1 (net 0 1) other_address)

-- the last entry is stored
pub the_last_is_stored : ListedIsStored ℕ → get table (net 4 3) ≡ Some 9
the_last_is_stored law = law table 2 (net 4 3) 9 (at 2 (net 4 3, 9) refl)

-- what is not listed is not stored: the same network with another value
pub no_other_value : StoredIsListed ℕ → get table (net 4 3) ≡ Some 8 → ⊥
no_other_value law stored =
    let place = law table (net 4 3) 8 stored in
    unlisted place.0 (ap (λ (es : List (Network × ℕ)). slice_get es place.0) (sym listed) ∙ place.1) where
      unlisted : (i : ℕ) → slice_get routes i ≡ Some (net 4 3, 8) → ⊥
      unlisted zero is = let same : 5 ≡ 8 = ap value is in omega (arith, same)
      unlisted (suc zero) is = let same : 7 ≡ 8 = ap value is in omega (arith, same)
      unlisted (suc (suc zero)) is = let same : 9 ≡ 8 = ap value is in omega (arith, same)
      unlisted (suc (suc (suc i))) is = let same : 0 ≡ 8 = ap value is in omega (arith, same)

-- no table has entries in which a block comes after a smaller one at the same address
pub smaller_after_wider : EntriesAscend ℕ → (t : Table) → slice_get (entries t) 1 ≡ Some (net 4 3, 9)
    → slice_get (entries t) 3 ≡ Some (net 4 1, 7) → ⊥
smaller_after_wider law t small wide = ⊎_elim
    (λ (less : 4 < 4). omega (arith, less))
    (λ (less : (4 ≡ 4) × (3 < 1)). omega (arith, less.1))
    (law t 1 3 (net 4 3, 9) (net 4 1, 7) small wide (lit< tt))

-- no table of blocks has entries in which a block lies in a later one at another address
pub none_in_a_later_one : WiderBlocksFirst ℕ → (t : Table) → HasOnlyBlocks 3 t
    → slice_get (entries t) 1 ≡ Some (net 6 3, 9) → slice_get (entries t) 3 ≡ Some (net 4 1, 7) → ⊥
none_in_a_later_one law t only small wide = law 3 t 1 3 (net 6 3, 9) (net 4 1, 7) only small wide (lit< tt)
    (λ x holds. (holds.0, in_the_half x holds.1)) where
      in_the_half : (x : ℕ) → x / 1 ≡ 6 → x / 4 ≡ 1
      in_the_half x is = omega (arith, is)
