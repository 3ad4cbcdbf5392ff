-- The laws of the operations on sets.
use Rattle.ipnetwork_sets.proofs.Words.{◌≡◌, ◌↔◌, ℕ, ◌^◌, ◌<◌, ◌⊎◌, inl, inr, sym, refl, subst, ⊎_elim, List, [], ◌∷◌, Bool, true, false, not, IsTrue, is_some, MatchOption, Option, None, Some, true≢false, Contains, Network, Member, InUnion, IsMaximalIn, IsLeastList, IsShortest, own_address, contains_head, least_of_same, is_shortest, member_or_not, CommonPartIsShortest, DifferenceIsShortest, FreePartIsShortest, UnionIsShortest, IsAddressSet, InBoth, InFirstAlone, InEither, IsWithin, AreDisjoint, in_union, common_blocks, either_blocks, left_blocks, InLeft, arith}
use Rattle.ipnetwork_sets.proofs.LeastBlocks.{union_told, common_is_least, either_is_least, left_is_least, left_or_not, left_fits}

-- ---- an address is in a union, or not

by_test : (b : Bool) {P : Type 0} → (b ≡ true) ↔ P → P ⊎ ¬ P
by_test true h = inl (h.0 refl)
by_test false h = inr (λ p. true≢false (sym (h.1 p)))

pub union_or_not : (w : ℕ) (a : List Network) (x : ℕ) → InUnion w a x ⊎ ¬ (InUnion w a x)
union_or_not w a x = by_test (in_union w a x) (union_told w a x)

both_or_not : (P Q : Type 0) → P ⊎ ¬ P → Q ⊎ ¬ Q → (P × Q) ⊎ ¬ (P × Q)
both_or_not P Q p q =
    ⊎_elim
    (λ (h : P). ⊎_elim (λ (k : Q). inl (h, k)) (λ (k : ¬ Q). inr (λ o. k o.1)) q)
    (λ (h : ¬ P). inr (λ o. h o.0)) p

either_or_not : (P Q : Type 0) → P ⊎ ¬ P → Q ⊎ ¬ Q → (P ⊎ Q) ⊎ ¬ (P ⊎ Q)
either_or_not P Q p q =
    ⊎_elim
    (λ (h : P). inl (inl h))
    (λ (h : ¬ P). ⊎_elim (λ (k : Q). inl (inr k)) (λ (k : ¬ Q). inr (λ o. ⊎_elim (λ (m : P). h m) (λ (m : Q). k m) o))
    q) p

no_or_not : (P : Type 0) → P ⊎ ¬ P → (¬ P) ⊎ ¬ (¬ P)
no_or_not P p = ⊎_elim (λ (h : P). inr (λ n. n h)) (λ (h : ¬ P). inl h) p

-- ---- no shorter list of networks has the same addresses

pub common_is_shortest : CommonPartIsShortest
common_is_shortest w a b r h =
    is_shortest w (InBoth w a b) r
    (λ x. both_or_not (InUnion w a x) (InUnion w b x) (union_or_not w a x) (union_or_not w b x)) (λ x s. s.0.2.0) h

-- a set of which each address is or is not a member, minus the addresses of a list
module _ (w : ℕ) (P : ℕ → Type 0) (test : (x : ℕ) → P x ⊎ ¬ (P x)) (fits : (x : ℕ) → P x → x < 2 ^ w) where
  rest_is_shortest : (a r : List Network) → IsLeastList w (λ x. P x × ¬ (InUnion w a x)) r
      → IsShortest w (λ x. P x × ¬ (InUnion w a x)) r
  rest_is_shortest a r h =
      is_shortest w (λ x. P x × ¬ (InUnion w a x)) r (λ x. both_or_not (P x) (¬ (InUnion w a x)) (test x)
      (no_or_not (InUnion w a x) (union_or_not w a x))) (λ x s. fits x s.0) h

pub difference_is_shortest : DifferenceIsShortest
difference_is_shortest w a b r h = rest_is_shortest w (InUnion w a) (union_or_not w a) (λ x c. c.2.0) b r h

pub free_is_shortest : FreePartIsShortest
free_is_shortest w n a r h = rest_is_shortest w (Member w n) (member_or_not w n) (λ x m. m.0) a r h

pub union_is_shortest : UnionIsShortest
union_is_shortest w a b r h =
    is_shortest w (InEither w a b) r
    (λ x. either_or_not (InUnion w a x) (InUnion w b x) (union_or_not w a x) (union_or_not w b x))
    (λ x s. ⊎_elim (λ (c : InUnion w a x). c.2.0) (λ (c : InUnion w b x). c.2.0) s) h

-- ---- queries on two sets

-- an empty list is that of a set without addresses
pub nothing_in : (w : ℕ) (S : ℕ → Type 0) (r : List Network) → IsShortest w S r → r ≡ [] → (x : ℕ) → ¬ (S x)
nothing_in w S r h e x s =
    let c : InUnion w [] x = subst (λ (l : List Network). InUnion w l x) e ((h.addresses x).1 s) in
    none_in_nil w x c
  where
    none_in_nil : (w x : ℕ) → InUnion w [] x → ⊥
    none_in_nil w x c = let l = c.1.1 in omega arith

-- a list with a block is that of a set with an address
pub something_in : (w : ℕ) (S : ℕ → Type 0) (r : List Network) (b : Network) (s : List Network) → IsLeastList w S r
    → r ≡ b ∷ s → S b.address
something_in w S r b s h e =
    let m : IsMaximalIn w S b = (h.maximal b).0 (subst (λ (l : List Network). Contains l b) (sym e) (contains_head b s))
    in
    m.lies b.address (own_address w b m.network)

pub within_if_none : (w : ℕ) (a b r : List Network) → IsLeastList w (InFirstAlone w a b) r → r ≡ [] → IsWithin w a b
within_if_none w a b r h e x c =
    ⊎_elim (λ (m : InUnion w b x). m)
    (λ (m : ¬ (InUnion w b x)). absurd
    (nothing_in w (InFirstAlone w a b) r (difference_is_shortest w a b r h) e x (c, m))) (union_or_not w b x)

pub not_within_if_some : (w : ℕ) (a b r : List Network) (n : Network) (s : List Network)
    → IsLeastList w (InFirstAlone w a b) r → r ≡ n ∷ s → ¬ (IsWithin w a b)
not_within_if_some w a b r n s h e within = let p = something_in w (InFirstAlone w a b) r n s h e in
    p.1 (within n.address p.0)

pub disjoint_if_none : (w : ℕ) (a b r : List Network) → IsLeastList w (InBoth w a b) r → r ≡ [] → AreDisjoint w a b
disjoint_if_none w a b r h e = nothing_in w (InBoth w a b) r (common_is_shortest w a b r h) e

pub not_disjoint_if_some : (w : ℕ) (a b r : List Network) (n : Network) (s : List Network)
    → IsLeastList w (InBoth w a b) r → r ≡ n ∷ s → ¬ (AreDisjoint w a b)
not_disjoint_if_some w a b r n s h e apart = apart n.address (something_in w (InBoth w a b) r n s h e)

-- ---- the result of an iterator's first step

step_answers : (P : Type 0) (r after : List Network) {X : Type 0} (pair : X → Network) (first : Option X)
    (answer : Bool) → (r ≡ [] → P)
    → ((n : Network) → r ≡ n ∷ after → ¬ P) → MatchOption first ((r ≡ []) × (after ≡ [])) (λ x. r ≡ pair x ∷ after)
    → is_some first ≡ not answer → IsTrue answer ↔ P
step_answers P r after pair None true left taken m e = ((λ t. left m.0), (λ k. refl))
step_answers P r after pair None false left taken m e = absurd (true≢false (sym e))
step_answers P r after pair (Some x) true left taken m e = absurd (true≢false e)
step_answers P r after pair (Some x) false left taken m e =
    ((λ t. absurd (true≢false (sym t))), (λ k. absurd (taken (pair x) m k)))

pub within_answer : (w : ℕ) (a b r after : List Network) {X : Type 0} (pair : X → Network) (first : Option X)
    (answer : Bool) → IsLeastList w (InFirstAlone w a b) r
    → MatchOption first ((r ≡ []) × (after ≡ [])) (λ x. r ≡ pair x ∷ after) → is_some first ≡ not answer
    → IsTrue answer ↔ IsWithin w a b
within_answer w a b r after pair first answer h =
    step_answers (IsWithin w a b) r after pair first answer (within_if_none w a b r h)
    (λ n. not_within_if_some w a b r n after h)

pub disjoint_answer : (w : ℕ) (a b r after : List Network) {X : Type 0} (pair : X → Network) (first : Option X)
    (answer : Bool) → IsLeastList w (InBoth w a b) r
    → MatchOption first ((r ≡ []) × (after ≡ [])) (λ x. r ≡ pair x ∷ after) → is_some first ≡ not answer
    → IsTrue answer ↔ AreDisjoint w a b
disjoint_answer w a b r after pair first answer h =
    step_answers (AreDisjoint w a b) r after pair first answer (disjoint_if_none w a b r h)
    (λ n. not_disjoint_if_some w a b r n after h)

-- ---- the blocks of an iterator are those of a set

pub least_is_set : (w : ℕ) (S : ℕ → Type 0) (r : List Network) → IsLeastList w S r → IsShortest w S r → IsAddressSet w r
least_is_set w S r h k = least_of_same w S (InUnion w r) r (λ x. ((k.addresses x).1, (k.addresses x).0)) h

pub common_is_set : (w : ℕ) (a b : List Network) → IsAddressSet w (common_blocks w a b)
common_is_set w a b = least_is_set w (InBoth w a b) (common_blocks w a b) (common_is_least w a b)
    (common_is_shortest w a b (common_blocks w a b) (common_is_least w a b))

pub either_is_set : (w : ℕ) (a b : List Network) → IsAddressSet w (either_blocks w a b)
either_is_set w a b = least_is_set w (InEither w a b) (either_blocks w a b) (either_is_least w a b)
    (union_is_shortest w a b (either_blocks w a b) (either_is_least w a b))

pub left_is_set : (w : ℕ) (at_hand : Option (Network × ℕ)) (rest cut : List Network)
    → IsAddressSet w (left_blocks w at_hand rest cut)
left_is_set w at_hand rest cut =
    least_is_set w (InLeft w at_hand rest cut) (left_blocks w at_hand rest cut) (left_is_least w at_hand rest cut)
    (is_shortest w (InLeft w at_hand rest cut) (left_blocks w at_hand rest cut)
    (λ x. left_or_not w at_hand rest cut x) (λ x s. left_fits w at_hand rest cut x s)
    (left_is_least w at_hand rest cut))
