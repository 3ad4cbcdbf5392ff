-- The blocks of two sides.
use Rattle.cidr_merge.proofs.Words.{◌≡◌, ◌≢◌, ◌<◌, ◌↔◌, ℕ, List, [], ◌∷◌, refl, sym, ap, arith, length, Option, None, Some, MatchOption, Network, IsLeastList, least_of_none, InUnion, contains_nil, IsRangeList, InFirstAlone, IsLeftOfSecond, left_of_second, with_head, Operation}
use Rattle.cidr_merge.specs.declared.command_line.Operation.TheVariants as operations

pub least_of_second : (operation : Operation) (w : ℕ) (first second blocks : List Network)
    → IsLeastList w (InFirstAlone w second first) blocks
    → IsLeastList w (IsLeftOfSecond operation w first second) (left_of_second operation blocks)
least_of_second operations.Union w first second blocks h = least_of_none w (λ x. ⊥) (λ x n. n)
least_of_second operations.Common w first second blocks h = least_of_none w (λ x. ⊥) (λ x n. n)
least_of_second operations.Minus w first second blocks h = least_of_none w (λ x. ⊥) (λ x n. n)
least_of_second operations.Differ w first second blocks h = h

-- the other operations print nothing that only the second side has
pub no_second : {X : Type 0} (operation : Operation) → operation ≢ operations.Differ → (parts : List X)
    → left_of_second operation parts ≡ []
no_second operations.Union other parts = refl
no_second operations.Common other parts = refl
no_second operations.Minus other parts = refl
no_second operations.Differ other parts = absurd (other refl)

pub headed : {N X : Type 0} (pair : N → X) (first : Option N) (old new : List X)
    → MatchOption first ((old ≡ []) × (new ≡ [])) (λ block. old ≡ pair block ∷ new)
    → with_head pair first new ≡ old
headed pair None old new h = sym h.0
headed pair (Some block) old new h = sym h

pub shorter : {X : Type 0} (xs ys : List X) (x : X) → xs ≡ x ∷ ys → length ys < length xs
shorter xs ys x e = omega (arith, ap length e)

-- ---- ranges

pub ranges_of : (w : ℕ) (blocks : List Network) (set : ℕ → Type 0) (ranges : List (ℕ × ℕ))
    → ((x : ℕ) → InUnion w blocks x ↔ set x) → IsRangeList (InUnion w blocks) ranges
    → IsRangeList set ranges
ranges_of w blocks set ranges same h = record {
  addresses =
      λ x. ((λ i. (same x).0 ((h.addresses x).0 i)), (λ s. (h.addresses x).1 ((same x).1 s)));
  ordered = h.ordered;
  apart = h.apart;
}

no_ranges : IsRangeList (λ x. ⊥) []
no_ranges = record {
  addresses = λ x. ((λ i. contains_nil i.0 i.1), (λ n. absurd n));
  ordered = λ k d l. absurd (omega arith);
  apart = λ i j d l m. absurd (omega arith);
}

pub ranges_of_second : (operation : Operation) (w : ℕ) (first second : List Network)
    (ranges : List (ℕ × ℕ)) → IsRangeList (InFirstAlone w second first) ranges
    → IsRangeList (IsLeftOfSecond operation w first second) (left_of_second operation ranges)
ranges_of_second operations.Union w first second ranges h = no_ranges
ranges_of_second operations.Common w first second ranges h = no_ranges
ranges_of_second operations.Minus w first second ranges h = no_ranges
ranges_of_second operations.Differ w first second ranges h = h
