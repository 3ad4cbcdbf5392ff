-- The pass over sorted blocks.
use Rattle.ipnetwork_blocks.proofs.Words.{◌≡◌, ℕ, ◌+◌, ◌-◌, ◌<◌, ◌≤◌, inl, inr, sym, refl, ap, subst, ◌∙◌, arith, ⊎_elim, List, [], ◌∷◌, ◌++◌, length, get_or, take, set, ◌≢◌, cases_lt, All, Contains, get_or_default, get_or-take, length-take, length-take-le, take_all, take_more, take_more_set, take-take, length-set, get_or-set_same, get_or-set_other, Contains-get_or, Network, IsCidrBlock, high, Subnet, IsNetworkAtMost, SameUnion, AreJoined, AreInOrder, LiesInLast}
use Rattle.ipnetwork_blocks.proofs.HalfBlocks.{past_top}
use Rattle.ipnetwork_blocks.proofs.AggregateUnions.{union_same, union_trans, union_push, union_skip}
use Rattle.ipnetwork_blocks.proofs.AggregateFront.{joined_nil, after_all}

-- ---- the order of networks

pub at_most_trans : (a b c : Network) → IsNetworkAtMost a b → IsNetworkAtMost b c → IsNetworkAtMost a c
at_most_trans a b c h k =
    ⊎_elim
    (λ (l : a.address < b.address). ⊎_elim
    (λ (m : b.address < c.address). inl (omega arith))
    (λ (e : (b.address ≡ c.address) × (b.prefix ≤ c.prefix)). inl (omega (arith, e.0))) k)
    (λ (e : (a.address ≡ b.address) × (a.prefix ≤ b.prefix)). ⊎_elim
    (λ (m : b.address < c.address). inl (omega (arith, e.0)))
    (λ (f : (b.address ≡ c.address) × (b.prefix ≤ c.prefix)). inr (omega (arith, e.0, f.0), omega (arith, e.1, f.1))) k)
    h

-- a network that is at most a block in order is at most the next one
next_in_order : (z : List Network) (next : ℕ) (a d : Network) → AreInOrder z → IsNetworkAtMost a (get_or z next d)
    → next + 1 < length z → IsNetworkAtMost a (get_or z (next + 1) d)
next_in_order z next a d o h l = at_most_trans a (get_or z next d) (get_or z (next + 1) d) h (o next d l)

-- ---- the loop of `join_sorted`

-- the first `next` of the sorted blocks z have the union of the first `kept` of xs, which are joined; the others are in
-- xs as they were in z
pub record IsPassing (w : ℕ) (z xs : List Network) (next kept : ℕ) : Type 0 where
  pub bound : kept ≤ next
  pub within : next ≤ length z
  pub size : length xs ≡ length z
  pub rest : (k : ℕ) (d : Network) → next ≤ k → get_or xs k d ≡ get_or z k d
  pub joined : AreJoined w (take kept xs)
  pub union : SameUnion w (take kept xs) (take next z)
  pub order : (d : Network) → 0 < kept → next < length z → IsNetworkAtMost (get_or xs (kept - 1) d) (get_or z next d)

pub passing_starts : (w : ℕ) (z : List Network) → IsPassing w z z 0 0
passing_starts w z = record {
  bound = omega arith;
  within = omega arith;
  size = refl;
  rest = λ k d l. refl;
  joined = joined_nil w;
  union = union_same w [];
  order = λ d l m. absurd (omega arith);
}

pub passing_skips : (w : ℕ) (z xs : List Network) (next kept : ℕ) (b : Network) → AreInOrder z
    → IsPassing w z xs next kept → next < length z
    → b ≡ get_or xs next b → 0 < kept → Subnet w b (get_or xs (kept - 1) b) → IsPassing w z xs (next + 1) kept
passing_skips w z xs next kept b o h l is some sub =
    let bound = h.bound in
    let size = h.size in
    let r : List Network = take kept xs in
    let n : Network = get_or xs (kept - 1) b in
    let len : length r ≡ kept = length-take-le kept xs (omega arith) in
    let held : Contains r n = subst (λ (t : Network). Contains r t) (get_or-take kept xs (kept - 1) b (omega arith))
    (Contains-get_or r (kept - 1) b (omega arith)) in
    let here : get_or z next b ≡ b = sym (h.rest next b (omega arith)) ∙ sym is in
    let more : take (next + 1) z ≡ take next z ++ b ∷ [] = take_more z next b l
    ∙ ap (λ t. take next z ++ t ∷ []) here in
    record {
      bound = omega arith;
      within = omega arith;
      size = size;
      rest = λ k d m. h.rest k d (omega arith);
      joined = h.joined;
      union = union_trans w r (r ++ b ∷ []) (take (next + 1) z) (union_skip w r b n held sub)
          (subst (λ (t : List Network). SameUnion w (r ++ b ∷ []) t) (sym more)
          (union_push w r (take next z) b h.union));
      order = λ d m k. next_in_order z next (get_or xs (kept - 1) d) d o (h.order d m l) k;
    }

-- a block that does not lie in the last block in front begins after the end of each block in front
pub passing_after : (w : ℕ) (z xs : List Network) (next kept : ℕ) (b : Network) → All (IsCidrBlock w) z
    → IsPassing w z xs next kept → next < length z
    → b ≡ get_or xs next b → (0 < kept → ¬ (Subnet w b (get_or xs (kept - 1) b)))
    → All (λ a. high w a < b.address) (take kept xs)
passing_after w z xs next kept b blocks h l is out =
    let bound = h.bound in
    let size = h.size in
    let r : List Network = take kept xs in
    let len : length r ≡ kept = length-take-le kept xs (omega arith) in
    let here : get_or z next b ≡ b = sym (h.rest next b (omega arith)) ∙ sym is in
    let bb : IsCidrBlock w b = subst (λ (n : Network). IsCidrBlock w n) here (blocks next b l) in
    ⊎_elim
    (λ (some : 0 < kept).
    let t : Network = get_or xs (kept - 1) b in
    let last : get_or r (kept - 1) b ≡ t = get_or-take kept xs (kept - 1) b (omega arith) in
    let bt : IsCidrBlock w t = subst (λ (n : Network). IsCidrBlock w n) last
    (h.joined.blocks (kept - 1) b (omega arith)) in
    let order : IsNetworkAtMost t b = subst (λ (n : Network). IsNetworkAtMost t n) here (h.order b some l) in
    let ends : high w t < b.address = past_top w t b bt bb order (out some) in
    let at : length r - 1 ≡ kept - 1 = omega arith in
    let top : get_or r (length r - 1) t ≡ t = ap (λ k. get_or r k t) at
    ∙ get_or_default r (kept - 1) t b (omega arith) ∙ last in
    after_all w r t b h.joined (omega arith) top ends)
    (λ (none : kept ≤ 0). λ i d m. absurd (omega arith))
    (cases_lt 0 kept)

pub passing_block : {w : ℕ} {z xs : List Network} {next kept : ℕ} (b : Network) → All (IsCidrBlock w) z
    → IsPassing w z xs next kept → next < length z
    → b ≡ get_or xs next b → IsCidrBlock w b
passing_block {w} {z} {xs} {next} {kept} b blocks h l is =
    subst (λ (n : Network). IsCidrBlock w n) (sym (h.rest next b (omega arith)) ∙ sym is) (blocks next b l)

pub passing_places : {w : ℕ} {z xs : List Network} {next kept : ℕ} (b : Network) (left : ℕ) (whole : Network)
    → AreInOrder z
    → IsPassing w z xs next kept → next < length z → b ≡ get_or xs next b → left ≤ kept
    → AreJoined w (take left (take kept xs) ++ whole ∷ [])
    → SameUnion w (take left (take kept xs) ++ whole ∷ []) (take kept xs ++ b ∷ []) → IsNetworkAtMost whole b
    → IsPassing w z (set xs left whole) (next + 1) (left + 1)
passing_places {w} {z} {xs} {next} {kept} b left whole o h l is le joined union order =
    let bound = h.bound in
    let size = h.size in
    let fits : left < length xs = omega arith in
    let r : List Network = take kept xs in
    let front : take left r ++ whole ∷ [] ≡ take (left + 1) (set xs left whole) =
    ap (λ t. t ++ whole ∷ []) (take-take left kept xs le) ∙ sym (take_more_set xs left whole fits) in
    let here : get_or z next b ≡ b = sym (h.rest next b (omega arith)) ∙ sym is in
    let more : take (next + 1) z ≡ take next z ++ b ∷ [] = take_more z next b l
    ∙ ap (λ t. take next z ++ t ∷ []) here in
    record {
      bound = omega arith;
      within = omega arith;
      size = length-set xs left whole ∙ size;
      rest = λ k d m. let other : k ≢ left = omega arith in get_or-set_other xs left k whole d other
          ∙ h.rest k d (omega arith);
      joined = subst (λ (t : List Network). AreJoined w t) front joined;
      union = subst (λ (t : List Network). SameUnion w t (take (next + 1) z)) front
          (union_trans w (take left r ++ whole ∷ []) (r ++ b ∷ []) (take (next + 1) z) union
          (subst (λ (t : List Network). SameUnion w (r ++ b ∷ []) t) (sym more)
          (union_push w r (take next z) b h.union)));
      order = λ d m k.
          let at : left ≡ left + 1 - 1 = omega arith in
          let top : whole ≡ get_or (set xs left whole) (left + 1 - 1) d = sym (get_or-set_same xs left whole d fits)
          ∙ ap (λ j. get_or (set xs left whole) j d) at in
          let read_d : get_or z next d ≡ b = get_or_default z next d b l ∙ here in
          subst (λ (n : Network). IsNetworkAtMost n (get_or z (next + 1) d)) top
          (next_in_order z next whole d o (subst (λ (n : Network). IsNetworkAtMost whole n) (sym read_d) order) k);
    }

pub passed_all : (w : ℕ) (z xs : List Network) (next kept : ℕ) → IsPassing w z xs next kept → length z ≤ next
    → SameUnion w (take kept xs) z
passed_all w z xs next kept h l = subst (λ (t : List Network). SameUnion w (take kept xs) t) (take_all next z l) h.union

last_is : (w : ℕ) (z xs : List Network) (next kept : ℕ) (b : Network) → IsPassing w z xs next kept → 0 < kept
    → get_or (take kept xs) (length (take kept xs) - 1) b ≡ get_or xs (kept - 1) b
last_is w z xs next kept b h some =
    let bound = h.bound in
    let size = h.size in
    let within = h.within in
    let len : length (take kept xs) ≡ kept = length-take-le kept xs (omega arith) in
    let at : length (take kept xs) - 1 ≡ kept - 1 = omega arith in
    ap (λ k. get_or (take kept xs) k b) at ∙ get_or-take kept xs (kept - 1) b (omega arith)

pub passing_skips_last : {w : ℕ} {z xs : List Network} {next kept : ℕ} (b : Network) → AreInOrder z
    → IsPassing w z xs next kept → next < length z
    → b ≡ get_or xs next b → LiesInLast w (take kept xs) b → IsPassing w z xs (next + 1) kept
passing_skips_last {w} {z} {xs} {next} {kept} b o h l is last =
    let n = length-take kept xs in
    let m = last.0 in
    let some : 0 < kept = omega arith in
    passing_skips w z xs next kept b o h l is some
    (subst (λ (t : Network). Subnet w b t) (last_is w z xs next kept b h some) last.1)

pub passing_after_last : {w : ℕ} {z xs : List Network} {next kept : ℕ} (b : Network) → All (IsCidrBlock w) z
    → IsPassing w z xs next kept → next < length z
    → b ≡ get_or xs next b → ¬ (LiesInLast w (take kept xs) b) → All (λ a. high w a < b.address) (take kept xs)
passing_after_last {w} {z} {xs} {next} {kept} b blocks h l is out =
    let bound = h.bound in
    let size = h.size in
    let len : length (take kept xs) ≡ kept = length-take-le kept xs (omega arith) in
    passing_after w z xs next kept b blocks h l is
    (λ some sub. out (omega arith, subst (λ (t : Network). Subnet w b t) (sym (last_is w z xs next kept b h some)) sub))
