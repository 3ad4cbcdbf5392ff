-- The laws of counts and of lists of ranges.
use Rattle.ipnetwork_sets.proofs.Words.{◌↔◌, ℕ, ◌^◌, ◌≤◌, List, Network, InUnion, AggregateIsApart, IsLeastList, IsShortest, SetAddsUp, CommonPartAddsUp, DifferenceAddsUp, HasCount, total, IsAddressSet, InBoth, InFirstAlone}
use Rattle.ipnetwork_sets.proofs.SetLaws.{least_is_set, common_is_shortest, difference_is_shortest}
use Rattle.ipnetwork_sets.proofs.Totals.{counted, total_is_within}

-- ---- the sizes of blocks, added up

pub set_adds_up : AggregateIsApart → SetAddsUp
set_adds_up apart w blocks h = (counted w blocks apart h, total_is_within w blocks apart h)

-- a set with the same addresses has the same count
count_of_same : (S T : ℕ → Type 0) (n : ℕ) → ((x : ℕ) → S x ↔ T x) → HasCount S n → HasCount T n
count_of_same S T n same h = record {
  addresses = h.addresses;
  ascending = h.ascending;
  exactly = λ x. ((λ c. (same x).0 ((h.exactly x).0 c)), (λ t. (h.exactly x).1 ((same x).1 t)));
  count = h.count;
}

least_adds_up : AggregateIsApart → (w : ℕ) (S : ℕ → Type 0) (blocks : List Network) → IsLeastList w S blocks
    → IsShortest w S blocks → HasCount S (total w blocks) × (total w blocks ≤ 2 ^ w)
least_adds_up apart w S blocks h k =
    let set : IsAddressSet w blocks = least_is_set w S blocks h k in (
      count_of_same (InUnion w blocks) S (total w blocks) k.addresses (counted w blocks apart set),
      total_is_within w blocks apart set,
    )

pub common_part_adds_up : AggregateIsApart → CommonPartAddsUp
common_part_adds_up apart w a b blocks h =
    least_adds_up apart w (InBoth w a b) blocks h (common_is_shortest w a b blocks h)

pub difference_adds_up : AggregateIsApart → DifferenceAddsUp
difference_adds_up apart w a b blocks h =
    least_adds_up apart w (InFirstAlone w a b) blocks h (difference_is_shortest w a b blocks h)
