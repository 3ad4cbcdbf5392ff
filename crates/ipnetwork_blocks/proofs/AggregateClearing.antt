-- Before the pass, host bits are cleared and the blocks are sorted.
use Rattle.ipnetwork_blocks.proofs.Words.{◌≡◌, ℕ, ◌+◌, ◌<◌, ◌≤◌, refl, ap, ◌∙◌, arith, List, ◌++◌, length, get_or, take, drop, set, map, All, AllWithin, IsPermutation, map_over_more, take_all, drop_all, append-nil, AllWithin-more_set, Network, IsCidrBlock, block_of, SameUnion, IsAggregate, AreJoined}
use Rattle.ipnetwork_blocks.proofs.AggregateUnions.{union_trans, union_cleared, union_permutation}
use Rattle.ipnetwork_blocks.proofs.AggregateJoined.{joined_is_aggregate}

pub record IsClearing (w : ℕ) (xs ys : List Network) (i : ℕ) : Type 0 where
  pub same : ys ≡ map (block_of w) (take i xs) ++ drop i xs
  pub blocks : AllWithin (IsCidrBlock w) ys 0 i

pub clearing_starts : (w : ℕ) (xs : List Network) → IsClearing w xs xs 0
clearing_starts w xs = record { same = refl; blocks = λ k d l m. absurd (omega arith) }

pub clearing_more : {w : ℕ} {xs ys : List Network} {i : ℕ} (x v : Network) → IsClearing w xs ys i → i < length xs
    → length ys ≡ length xs
    → x ≡ get_or ys i x → v ≡ block_of w x → IsCidrBlock w v → IsClearing w xs (set ys i v) (i + 1)
clearing_more {w} {xs} {ys} {i} x v h l size is e b = record {
  same = ap (λ n. set ys i n) e ∙ map_over_more (block_of w) xs ys i x l h.same is;
  blocks = AllWithin-more_set ys i v (omega arith) (IsCidrBlock w) h.blocks b;
}

pub cleared : (w : ℕ) (xs ys : List Network) (i : ℕ) → IsClearing w xs ys i → length xs ≤ i → length ys ≡ length xs
    → (ys ≡ map (block_of w) xs) × All (IsCidrBlock w) ys
cleared w xs ys i h l size = (
  h.same ∙ ap (λ t. map (block_of w) t ++ drop i xs) (take_all i xs l)
      ∙ ap (λ t. map (block_of w) xs ++ t) (drop_all i xs l) ∙ append-nil (map (block_of w) xs),
  λ k d m. h.blocks k d (omega arith) (omega arith),
)

-- networks whose host bits are cleared, sorted and joined, become their aggregate
pub aggregate_of_sorted : (w : ℕ) (ns zs r : List Network) → IsPermutation (map (block_of w) ns) zs → AreJoined w r
    → SameUnion w r zs → IsAggregate w ns r
aggregate_of_sorted w ns zs r p h u =
    joined_is_aggregate w ns r h
    (union_trans w r zs ns u (union_trans w zs (map (block_of w) ns) ns (union_permutation w (map (block_of w) ns) zs p)
    (union_cleared w ns)))
