-- A table that would expose a misreading of `IsTable`, `FindsLongest` or `IsTableOf`: 10.0.0.0/8 and twice 10.1.0.0/16.
use Rattle.ipnetwork_c.proofs.Words.{◌≡◌, ℕ, zero, suc, ◌<◌, ◌≤◌, List, [], ◌∷◌, get_or, refl, inl, inr, lit<, lit≤, ap, arith, ⊎_elim, sum_by-IsPermutation, Network, IsCidrBlock, IsNetworkAtMost, IsTable, FindsLongest, IsTableOf, row_block}

abbrev wide : Network
wide = record { address = 0x0a000000; prefix = 8 }

abbrev narrow : Network
narrow = record { address = 0x0a010000; prefix = 16 }

abbrev pub nested : List Network
nested = wide ∷ narrow ∷ narrow ∷ []

are_blocks : (k : ℕ) (d : Network) → k < 3 → IsCidrBlock 32 (get_or nested k d)
are_blocks zero d l = record { network = record { address_fits = lit< tt; prefix_fits = lit≤ tt }; block = refl }
are_blocks (suc zero) d l = record { network = record { address_fits = lit< tt; prefix_fits = lit≤ tt }; block = refl }
are_blocks (suc (suc zero)) d l =
    record { network = record { address_fits = lit< tt; prefix_fits = lit≤ tt }; block = refl }
are_blocks (suc (suc (suc k))) d l = absurd (omega (arith, l))

ascend : (i j : ℕ) (d : Network) → i < j → j < 3 → IsNetworkAtMost (get_or nested i d) (get_or nested j d)
ascend zero zero d l m = absurd (omega (arith, l))
ascend zero (suc zero) d l m = inl (lit< tt)
ascend zero (suc (suc zero)) d l m = inl (lit< tt)
ascend (suc zero) zero d l m = absurd (omega (arith, l))
ascend (suc zero) (suc zero) d l m = absurd (omega (arith, l))
ascend (suc zero) (suc (suc zero)) d l m = inr (refl, lit≤ tt)
ascend (suc (suc i)) (suc (suc zero)) d l m = absurd (omega (arith, l))
ascend (suc (suc i)) zero d l m = absurd (omega (arith, l))
ascend (suc (suc i)) (suc zero) d l m = absurd (omega (arith, l))
ascend i (suc (suc (suc j))) d l m = absurd (omega (arith, m))

-- a block may be contained in another, and may occur twice
pub nested_is_a_table : IsTable 32 nested
nested_is_a_table = record { blocks = are_blocks; ascending = ascend }

pub host_bits_are_in_no_table : ¬ (IsTable 32 (record { address = 0x0a000001; prefix = 8 } ∷ []))
host_bits_are_in_no_table t = let h : 0x0a000001 ≡ 0x0a000000 = (t.blocks 0 wide (lit< tt)).block in omega (arith, h)

pub the_wider_block_comes_first : ¬ (IsTable 32 (record { address = 0x0a000000; prefix = 16 } ∷ wide ∷ []))
the_wider_block_comes_first t =
    ⊎_elim
    (λ (less : 0x0a000000 < 0x0a000000). omega (arith, less))
    (λ (e : (0x0a000000 ≡ 0x0a000000) × (16 ≤ 8)). let h = e.1 in omega (arith, h))
    (t.ascending 0 1 wide (lit< tt) (lit< tt))

at_most_sixteen : (k : ℕ) (d : Network) → k < 3 → (get_or nested k d).prefix ≤ 16
at_most_sixteen zero d l = lit≤ tt
at_most_sixteen (suc zero) d l = lit≤ tt
at_most_sixteen (suc (suc zero)) d l = lit≤ tt
at_most_sixteen (suc (suc (suc k))) d l = absurd (omega (arith, l))

-- for 10.1.2.3 the last of the longest blocks is found
pub the_last_of_the_longest_is_found : FindsLongest 32 nested 0x0a010203 2
the_last_of_the_longest_is_found = record {
  within = lit< tt;
  one = λ d. (lit< tt, refl);
  longest = λ t k d l m. at_most_sixteen k d l;
  last = λ t k d after l. absurd (omega (arith, after, l));
}

-- no other block is found
pub no_wider_block_is_found : ¬ (FindsLongest 32 nested 0x0a010203 0)
no_wider_block_is_found f = let h : 16 ≤ 8 = f.longest nested_is_a_table 1 wide (lit< tt) (lit< tt, refl) in
    omega (arith, h)

pub none_before_an_equal_one_is_found : ¬ (FindsLongest 32 nested 0x0a010203 1)
none_before_an_equal_one_is_found f = f.last nested_is_a_table 2 wide (lit< tt) (lit< tt) (lit< tt, refl)

-- each row of a table is the block of the network at its place
pub a_row_is_the_block_of_its_network : row_block 32 (record { address = 0x0a010203; prefix = 16 } ∷ wide
    ∷ []) 0 ≡ narrow
a_row_is_the_block_of_its_network = refl

pub other_places_are_beside_no_table : ¬ (IsTableOf 32 (narrow ∷ wide ∷ []) (wide ∷ narrow ∷ []) (0 ∷ 1 ∷ []))
other_places_are_beside_no_table t = let h : 8 ≡ 16 = ap (λ (n : Network). n.prefix) (t.block 0 wide (lit< tt)) in
    omega (arith, h)

-- each network occurs once
pub no_network_stands_twice : ¬ (IsTableOf 32 (wide ∷ narrow ∷ []) (wide ∷ wide ∷ []) (0 ∷ 0 ∷ []))
no_network_stands_twice t = let same : 0 ≡ 1 = sum_by-IsPermutation (λ (place : ℕ). place) (0 ∷ 1 ∷ []) (0 ∷ 0 ∷ [])
    t.once in omega (arith, same)

pub no_network_is_left_out : (places : List ℕ) → ¬ (IsTableOf 32 (wide ∷ []) [] places)
no_network_is_left_out places t = let rows : 0 ≡ 1 = t.rows in omega (arith, rows)

-- of equal blocks, the one of the later network comes later
pub equal_blocks_are_not_turned : ¬ (IsTableOf 32 (narrow ∷ narrow ∷ []) (narrow ∷ narrow ∷ []) (1 ∷ 0 ∷ []))
equal_blocks_are_not_turned t = let h : 1 ≤ 0 = t.equal 0 1 wide (lit< tt) (lit< tt) refl in omega (arith, h)
