-- Tables for which a misreading of the definitions would show, with addresses of three bits.
use Rattle.ipnetwork_table.proofs.Words.{◌≡◌, ℕ, ◌+◌, ◌≤◌, Some, None, [], ◌∷◌, refl, arith, lit<, IsSome, get, by_pair, found_by_pair, HasOnlyBlocks, HasNoHostBits, Answers, longest_of}
use Rattle.ipnetwork_table.proofs.LawExamples.{net, Table, routes}

-- ---- entries keep their order and their values, and each network is converted

pub entries_by_pair : by_pair {N = ℕ} {V = ℕ} (λ x. net x (x + 1)) ((4, 7) ∷ (0, 5) ∷ []) ≡ (net 4 5, 7)
    ∷ (net 0 1, 5) ∷ []
entries_by_pair = refl

pub found_as_pair : found_by_pair {N = ℕ} {V = ℕ} (λ x. net x (x + 1)) (Some (4, 7)) ≡ Some (net 4 5, 7)
found_as_pair = refl

pub nothing_as_pair : found_by_pair {N = ℕ} {V = ℕ} (λ x. net x (x + 1)) None ≡ None
nothing_as_pair = refl

-- ---- keys that a table cannot have: one with host bits, and one whose prefix length or address is too large

pub host_bits_are_no_key : (t : Table) → HasOnlyBlocks 3 t → ¬ (IsSome (get t (net 5 1)))
host_bits_are_no_key t only stored = let clear : 5 ≡ 4 = (only (net 5 1) stored).block in omega (arith, clear)

pub prefix_of_four_is_no_key : (t : Table) → HasOnlyBlocks 3 t → ¬ (IsSome (get t (net 0 4)))
prefix_of_four_is_no_key t only stored = let fits : 4 ≤ 3 = (only (net 0 4) stored).network.prefix_fits in
    omega (arith, fits)

pub eight_is_no_key : (t : Table) → HasOnlyBlocks 3 t → ¬ (IsSome (get t (net 8 3)))
eight_is_no_key t only stored = omega (arith, (only (net 8 3) stored).network.address_fits)

pub no_key_has_host_bits : (t : Table) → HasNoHostBits 3 t → ¬ (IsSome (get t (net 5 2)))
no_key_has_host_bits t clear stored = let least : 5 ≡ 4 = clear (net 5 2) stored in omega (arith, least)

-- ---- look-ups: an address only in the first entry, which has the prefix length 0, and one in all three entries

pub found_in_the_first : longest_of 3 1 routes ≡ Some (net 0 0, 5)
found_in_the_first = refl

pub found_in_the_last : longest_of 3 4 routes ≡ Some (net 4 3, 9)
found_in_the_last = refl

-- nothing is found only if no block holds the address, not even the block of all addresses
pub something_is_found : (t : Table) → IsSome (get t (net 0 0)) → ¬ (Answers 3 t 7 None)
something_is_found t stored none = none (net 0 0) stored (lit< tt, refl)

-- a block is found only if it holds the address
pub found_block_holds : (t : Table) (v : ℕ) → ¬ (Answers 3 t 3 (Some (net 4 1, v)))
found_block_holds t v found = let first : 0 ≡ 1 = found.holds.1 in omega (arith, first)

-- a block is found only with its value
pub found_value_is_stored : (t : Table) → Answers 3 t 6 (Some (net 4 1, 7)) → get t (net 4 1) ≡ Some 7
found_value_is_stored t found = found.stored

-- a block is found only if it is the longest
pub no_longer_block : (t : Table) → IsSome (get t (net 4 3)) → ¬ (Answers 3 t 4 (Some (net 4 1, 7)))
no_longer_block t stored found = let few : 3 ≤ 1 = found.longest (net 4 3) stored (lit< tt, refl) in omega (arith, few)
