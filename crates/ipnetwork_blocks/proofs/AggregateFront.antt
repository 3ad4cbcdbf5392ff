-- The blocks in front, in which no two can be joined, and one more that is joined with those at their end.
use Rattle.ipnetwork_blocks.proofs.Words.{◌≡◌, ℕ, ◌+◌, ◌-◌, ◌<◌, ◌≤◌, inl, inr, sym, refl, ap, subst, ◌∙◌, arith, ⊎_elim, List, [], ◌∷◌, ◌++◌, length, get_or, take, cases_lt, All, get_or_default, get_or-take, length-take, length-take-le, take_all, take_more, All-push, All-take, all_pairs_push, Network, IsCidrBlock, high, IsNetworkAtMost, size_pos, block_begins, block_at_network, SameUnion, parent, AreHalves, Follows, AreJoined}
use Rattle.ipnetwork_blocks.proofs.AggregateLists.{pairs_take}
use Rattle.ipnetwork_blocks.proofs.HalfBlocks.{halves_join, nothing_between}
use Rattle.ipnetwork_blocks.proofs.AggregateUnions.{union_same, union_trans, union_join}

pub joined_nil : (w : ℕ) → AreJoined w []
joined_nil w = record { blocks = λ k d l. absurd (omega arith); pairs = λ i j d l m. absurd (omega arith) }

pub joined_take : (w k : ℕ) (r : List Network) → AreJoined w r → AreJoined w (take k r)
joined_take w k r h =
    record { blocks = All-take (IsCidrBlock w) k r h.blocks; pairs = pairs_take (Follows w) r k h.pairs }

-- a block that begins after the end of the last block begins after the end of every block
pub after_all : (w : ℕ) (r : List Network) (t b : Network) → AreJoined w r → 0 < length r
    → get_or r (length r - 1) t ≡ t → high w t < b.address
    → All (λ a. high w a < b.address) r
after_all w r t b h some is l i d m =
    let last : get_or r (length r - 1) d ≡ t = get_or_default r (length r - 1) d t (omega arith) ∙ is in
    ⊎_elim
    (λ (less : i < length r - 1).
    let f = h.pairs i (length r - 1) d less (omega arith) in
    let bt : IsCidrBlock w t = subst (λ (n : Network). IsCidrBlock w n) last
    (h.blocks (length r - 1) d (omega arith)) in
    let at : (get_or r (length r - 1) d).address ≡ t.address = ap (λ n. n.address) last in
    omega (arith, f.0, bt.block, size_pos w t.prefix))
    (λ (le : length r - 1 ≤ i).
    let e : length r - 1 ≡ i = omega arith in
    let here : t ≡ get_or r i d = sym last ∙ ap (λ k. get_or r k d) e in
    subst (λ (n : Network). high w n < b.address) here l)
    (cases_lt i (length r - 1))

-- one more block after the others, if it and the last one are not the halves of one block
pub joined_push : (w : ℕ) (r : List Network) (b : Network) → AreJoined w r → IsCidrBlock w b
    → All (λ a. high w a < b.address) r
    → ((d : Network) → 0 < length r → ¬ (AreHalves w (get_or r (length r - 1) d) b)) → AreJoined w (r ++ b ∷ [])
joined_push w r b h bb after last = record {
  blocks = All-push (IsCidrBlock w) r b h.blocks bb;
  pairs = all_pairs_push (Follows w) r b h.pairs (λ k d l. (
    after k d l,
    λ s. ⊎_elim
        (λ (less : k < length r - 1).
        let f = h.pairs k (length r - 1) d less (omega arith) in
        nothing_between w (get_or r k d) (get_or r (length r - 1) d) b (h.blocks k d l)
        (h.blocks (length r - 1) d (omega arith)) bb f.0 (after (length r - 1) d (omega arith)) s)
        (λ (le : length r - 1 ≤ k).
        let e : k ≡ length r - 1 = omega arith in
        last d (omega arith) (subst (λ (j : ℕ). AreHalves w (get_or r j d) b) e s))
        (cases_lt k (length r - 1)),
  ));
}

-- ---- the loop of `join_back`: the first `left` blocks of r remain in front, and `whole` replaces the others and b

pub record IsJoining (w : ℕ) (r : List Network) (b : Network) (left : ℕ) (whole : Network) : Type 0 where
  pub bound : left ≤ length r
  pub block : IsCidrBlock w whole
  pub after : All (λ a. high w a < whole.address) (take left r)
  pub union : SameUnion w (take left r ++ whole ∷ []) (r ++ b ∷ [])
  pub order : IsNetworkAtMost whole b

pub joining_starts : (w : ℕ) (r : List Network) (b : Network) → IsCidrBlock w b → All (λ a. high w a < b.address) r
    → IsJoining w r b (length r) b
joining_starts w r b hb after =
    let whole : take (length r) r ≡ r = take_all (length r) r (omega arith) in
    record {
      bound = omega arith;
      block = hb;
      after = rw whole after;
      union = rw whole (union_same w (r ++ b ∷ []));
      order = inr (refl, omega arith);
    }

pub joining_more : {w : ℕ} {r : List Network} {b : Network} {left : ℕ} {whole : Network} (t : Network) → AreJoined w r
    → IsJoining w r b left whole → 0 < left
    → t ≡ get_or r (left - 1) t → AreHalves w t whole → IsJoining w r b (left - 1) (parent w t)
joining_more {w} {r} {b} {left} {whole} t h j some is s =
    let bound = j.bound in
    let below : left - 1 < length r = omega arith in
    let back : left - 1 + 1 ≡ left = omega arith in
    let bt : IsCidrBlock w t = subst (λ (n : Network). IsCidrBlock w n) (sym is) (h.blocks (left - 1) t below) in
    let size = length-take left r in
    let l : high w t < whole.address =
    subst (λ (n : Network). high w n < whole.address) (get_or-take left r (left - 1) t (omega arith) ∙ sym is)
    (j.after (left - 1) t (omega arith)) in
    let more : take left r ≡ take (left - 1) r ++ t ∷ [] = ap (λ k. take k r) (sym back)
    ∙ take_more r (left - 1) t below ∙ ap (λ n. take (left - 1) r ++ n ∷ []) (sym is) in
    let tf = bt.network.prefix_fits in
    let address = (halves_join w t whole bt j.block l s).0 in
    record {
      bound = omega arith;
      block = record {
        network = (block_at_network w t.address (t.prefix - 1) bt.network.address_fits (omega arith)).network;
        block = block_begins w (record { address = t.address; prefix = t.prefix - 1 });
      };
      after = λ i d m.
          let size' = length-take (left - 1) r in
          let f = h.pairs i (left - 1) d (omega arith) below in
          let read : get_or (take (left - 1) r) i d ≡ get_or r i d = get_or-take (left - 1) r i d (omega arith) in
          let same : get_or r (left - 1) d ≡ t = get_or_default r (left - 1) d t below ∙ sym is in
          let at : (get_or r (left - 1) d).address ≡ (parent w t).address = ap (λ n. n.address) same ∙ sym address in
          subst (λ (n : Network). high w n < (parent w t).address) (sym read)
          (subst (λ (k : ℕ). high w (get_or r i d) < k) at f.0);
      union = union_trans w (take (left - 1) r ++ parent w t ∷ []) ((take (left - 1) r ++ t ∷ []) ++ whole ∷ [])
          (r ++ b ∷ [])
          (union_join w (take (left - 1) r) t whole bt j.block l s)
          (subst (λ (z : List Network). SameUnion w (z ++ whole ∷ []) (r ++ b ∷ [])) more j.union);
      order = inl (⊎_elim
          (λ (o : whole.address < b.address). omega (arith, address, l, bt.block, size_pos w t.prefix))
          (λ (o : (whole.address ≡ b.address) × (whole.prefix ≤ b.prefix)). omega
          (arith, address, o.0, l, bt.block, size_pos w t.prefix)) j.order);
    }

-- when the loop stops, `whole` goes after the blocks that remain
pub joining_stops : (w : ℕ) (r : List Network) (b : Network) (left : ℕ) (whole : Network) → AreJoined w r
    → IsJoining w r b left whole
    → ((t : Network) → 0 < left → t ≡ get_or r (left - 1) t → ¬ (AreHalves w t whole))
    → AreJoined w (take left r ++ whole ∷ [])
joining_stops w r b left whole h j apart =
    let size : length (take left r) ≡ left = length-take-le left r j.bound in
    joined_push w (take left r) whole (joined_take w left r h) j.block j.after
    (λ d l s.
    let e : length (take left r) - 1 ≡ left - 1 = ap (λ k. k - 1) size in
    let bound = j.bound in
    let some : 0 < left = omega arith in
    let read : get_or (take left r) (length (take left r) - 1) d ≡ get_or r (left - 1) d =
    ap (λ k. get_or (take left r) k d) e ∙ get_or-take left r (left - 1) d (omega arith) in
    let t : Network = get_or r (left - 1) d in
    apart t some (get_or_default r (left - 1) d t (omega arith)) (subst (λ (n : Network). AreHalves w n whole) read s))
