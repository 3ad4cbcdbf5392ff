-- Where a set and a table of 3-bit addresses are cut: between 1 and 2 and between 3 and 4 for the set of 2 and 3;
-- before 4 and after 5 for a table with the block of 4 and 5.
use Rattle.ipnetwork_index.proofs.Words.{◌≡◌, ℕ, zero, suc, ◌+◌, ◌<◌, ◌≤◌, inl, inr, refl, subst, arith, ⊎_elim, [], ◌∷◌, get_or, cases_lt, FinMap, get, Contains, contains_cons, contains_head, contains_nil, contains_tail, Network, low, high, network_cmp, IsTurn, CutInto, HasEdge, IsEdge, CutByBlocks, HasCount}
use Rattle.std.specs.Prelude.{IsSome}

abbrev net : ℕ → ℕ → Network
net address prefix = record { address = address; prefix = prefix }

-- ---- a set

abbrev Two : ℕ → Type 0
Two x = (2 ≤ x) × (x ≤ 3)

ascend : (i j d : ℕ) → i < j → j < 2 → get_or (1 ∷ 3 ∷ []) i d < get_or (1 ∷ 3 ∷ []) j d
ascend zero zero d l m = absurd (omega (arith, l))
ascend zero (suc zero) d l m = omega arith
ascend zero (suc (suc j)) d l m = absurd (omega (arith, m))
ascend (suc i) j d l m = absurd (omega (arith, l, m))

one_or_three : (x : ℕ) → Contains (1 ∷ 3 ∷ []) x → IsTurn 3 Two x
one_or_three x c =
    ⊎_elim
    (λ (e : 1 ≡ x). (omega (arith, e), inr ((λ t. omega (arith, e, t.0)), (omega (arith, e), omega (arith, e)))))
    (λ (d : Contains (3 ∷ []) x). ⊎_elim
    (λ (e : 3 ≡ x). (omega (arith, e), inl ((omega (arith, e), omega (arith, e)), λ t. omega (arith, e, t.1))))
    (λ (none : Contains [] x). absurd (contains_nil x none))
    (contains_cons 3 [] x d))
    (contains_cons 1 (3 ∷ []) x c)

is_three : (x : ℕ) → Two x → ¬ (Two (x + 1)) → Contains (1 ∷ 3 ∷ []) x
is_three x t n =
    ⊎_elim
    (λ (less : x < 3). absurd (n (omega (arith, t.0), omega (arith, less))))
    (λ (more : 3 ≤ x).
    let e : 3 ≡ x = omega (arith, more, t.1) in
    subst (λ (y : ℕ). Contains (1 ∷ 3 ∷ []) y) e (contains_tail 1 (3 ∷ []) 3 (contains_head 3 [])))
    (cases_lt x 3)

is_one : (x : ℕ) → ¬ (Two x) → Two (x + 1) → Contains (1 ∷ 3 ∷ []) x
is_one x n t =
    ⊎_elim
    (λ (less : x < 2).
    let e : 1 ≡ x = omega (arith, less, t.0) in
    subst (λ (y : ℕ). Contains (1 ∷ 3 ∷ []) y) e (contains_head 1 (3 ∷ [])))
    (λ (more : 2 ≤ x). absurd (n (more, omega (arith, t.1))))
    (cases_lt x 2)

pub two_turns : HasCount (IsTurn 3 Two) 2
two_turns = record {
  addresses = 1 ∷ 3 ∷ [];
  ascending = ascend;
  exactly = λ x. (
    one_or_three x,
    (λ t. ⊎_elim
        (λ (o : Two x × ¬ (Two (x + 1))). is_three x o.0 o.1)
        (λ (o : ¬ (Two x) × Two (x + 1)). is_one x o.0 o.1) t.1),
  );
  count = refl;
}

pub three_ranges : CutInto 3 Two 3
three_ranges = (2, two_turns, refl)

-- nothing begins after the last address
pub last_is_no_turn : ¬ (IsTurn 3 (λ x. x ≡ 7) 7)
last_is_no_turn t = omega (arith, t.0)

-- ---- a table

module _ {V : Type 0} (t : FinMap network_cmp V) where
  pub edge_where_a_block_ends : IsSome (get t (net 4 2)) → IsEdge 3 t 5
  edge_where_a_block_ends some = (omega arith, (net 4 2, some, inl refl))

  pub edge_before_a_block_begins : IsSome (get t (net 4 2)) → IsEdge 3 t 3
  edge_before_a_block_begins some = (omega arith, (net 4 2, some, inr refl))

  pub none_after_the_last : ¬ (IsEdge 3 t 7)
  none_after_the_last h = omega (arith, h.0)

  pub none_in_the_only_block : ((n : Network) → IsSome (get t n) → n ≡ net 4 2) → ¬ (HasEdge 3 t 4)
  none_in_the_only_block only h =
      let e : h.0 ≡ net 4 2 = only h.0 h.1 in
      ⊎_elim
      (λ (ends : high 3 h.0 ≡ 4). let is : 5 ≡ 4 = subst (λ (n : Network). high 3 n ≡ 4) e ends in omega (arith, is))
      (λ (begins : low 3 h.0 ≡ 5). let is : 4 ≡ 5 = subst (λ (n : Network). low 3 n ≡ 5) e begins in omega (arith, is))
      h.2

  pub one_more_range_than_edges : HasCount (IsEdge 3 t) 2 → CutByBlocks 3 t 3
  one_more_range_than_edges edges = (2, edges, refl)
