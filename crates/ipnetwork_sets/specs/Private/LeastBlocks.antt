-- The least list of the addresses that pass a test, found by halving blocks: how contracts see the iterators over sets.
-- A clause of each call that makes such an iterator says that this is the least list.
use Rattle.std.specs.Prelude.{ℕ, zero, suc, ◌+◌, ◌-◌, ◌^◌, ◌&&◌, ◌||◌, not, nat_le, cond, Bool, true, false, Option}
use Rattle.std.specs.Prelude.{None, Some, List, [], ◌∷◌, ◌++◌}
use Rattle.std.specs.List.{list_any}
use Rattle.ipnetwork_family.specs.Network.{Network}
use Rattle.ipnetwork_family.specs.Computed.Network.{is_member}

-- whether each of the `count` addresses from `start` on passes the test
unfoldable pub all_from : (ℕ → Bool) → ℕ → ℕ → Bool
all_from test start zero = true
all_from test start (suc count) = test (start + count) && all_from test start count

-- the blocks within the block of k host bits that begins at `base`: that block if all its addresses pass the test,
-- otherwise those within its two halves
unfoldable pub least_within : (ℕ → Bool) → ℕ → ℕ → ℕ → List Network
least_within test w zero base = cond (all_from test base (2 ^ zero)) (record { address = base; prefix = w } ∷ []) []
least_within test w (suc k) base =
    cond (all_from test base (2 ^ suc k)) (record { address = base; prefix = w - suc k } ∷ [])
    (least_within test w k base ++ least_within test w k (base + 2 ^ k))

-- the blocks of the addresses of w bits that pass the test
unfoldable pub least_blocks : ℕ → (ℕ → Bool) → List Network
least_blocks w test = least_within test w w 0

-- whether the address is in the union of the networks
unfoldable pub in_union : ℕ → List Network → ℕ → Bool
in_union w networks x = list_any (λ n. is_member w n x) networks

-- the blocks of the addresses that are in both sets
unfoldable pub common_blocks : ℕ → List Network → List Network → List Network
common_blocks w first second = least_blocks w (λ x. in_union w first x && in_union w second x)

-- whether the address is in the current block, if there is one, and not before the next address
unfoldable pub is_from : ℕ → Option (Network × ℕ) → ℕ → Bool
is_from w None x = false
is_from w (Some p) x = is_member w p.0 x && nat_le p.1 x

-- the blocks of the addresses of the current part and of the rest that are not in the cut set
unfoldable pub left_blocks : ℕ → Option (Network × ℕ) → List Network → List Network → List Network
left_blocks w at_hand rest cut = least_blocks w
    (λ x. (is_from w at_hand x || in_union w rest x) && not (in_union w cut x))

-- the blocks of the addresses that are in one of the two sets or in both
unfoldable pub either_blocks : ℕ → List Network → List Network → List Network
either_blocks w first second = least_blocks w (λ x. in_union w first x || in_union w second x)
