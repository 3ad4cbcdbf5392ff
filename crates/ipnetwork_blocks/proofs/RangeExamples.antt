-- Ranges and exclusions of 3-bit addresses that would reveal a misreading of the definitions.
use Rattle.ipnetwork_blocks.proofs.Words.{ℕ, refl, arith, [], ◌∷◌, Network, IsNetwork, IsLeastList, FromTo, InDifference, blocks_within}
use Rattle.ipnetwork_blocks.proofs.ExcludedParts.{least_around, least_before, least_behind}
use Rattle.ipnetwork_blocks.proofs.LeastLists.{own_address, least_unique}
use Rattle.ipnetwork_blocks.proofs.RangeLists.{least_from_to}

abbrev net : ℕ → ℕ → Network
net address prefix = record { address = address; prefix = prefix }

-- both ends belong to the range
pub six_of_eight : IsLeastList 3 (FromTo 1 6) (net 1 3 ∷ net 2 2 ∷ net 4 2 ∷ net 6 3 ∷ [])
unfolding blocks_within
six_of_eight = least_from_to 3 1 6 (omega arith)

pub one_address : IsLeastList 3 (FromTo 7 7) (net 7 3 ∷ [])
unfolding blocks_within
one_address = least_from_to 3 7 7 (omega arith)

pub all_addresses : IsLeastList 3 (FromTo 0 7) (net 0 0 ∷ [])
unfolding blocks_within
all_addresses = least_from_to 3 0 7 (omega arith)

-- two adjacent blocks that are not halves of one block do not form a block
pub two_that_touch : IsLeastList 3 (FromTo 3 4) (net 3 3 ∷ net 4 3 ∷ [])
unfolding blocks_within
two_that_touch = least_from_to 3 3 4 (omega arith)

-- two halves are not a least list
pub not_two_halves : IsLeastList 3 (FromTo 0 7) (net 0 1 ∷ net 4 1 ∷ []) → ⊥
not_two_halves h = let e = least_unique 3 (FromTo 0 7) (net 0 0 ∷ []) (net 0 1 ∷ net 4 1 ∷ []) all_addresses h in cc

-- the host bits of both networks make no difference
pub all_but_one : IsLeastList 3 (InDifference 3 (net 2 0) (net 5 3)) (net 0 1 ∷ net 4 3 ∷ net 6 2 ∷ [])
unfolding blocks_within
all_but_one =
    let n : IsNetwork 3 (net 2 0) = record { address_fits = omega arith; prefix_fits = omega arith } in
    let i : IsNetwork 3 (net 5 3) = record { address_fits = omega arith; prefix_fits = omega arith } in
    least_around 0 7 n i (5, (omega arith, refl), own_address 3 (net 5 3) i) refl refl
    (least_before 3 0 4 (net 5 3) (net 0 1 ∷ net 4 3 ∷ []) refl (least_from_to 3 0 4 (omega arith)))
    (least_behind 3 6 7 (net 5 3) (net 6 2 ∷ []) refl (least_from_to 3 6 7 (omega arith)))
