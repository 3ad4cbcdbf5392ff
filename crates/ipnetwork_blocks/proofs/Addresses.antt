-- Addresses of a family are compared by their numbers.
use Rattle.ipnetwork_blocks.proofs.Words.{◌≡◌, ◌≢◌, ◌↔◌, ℕ, ◌-◌, ◌^◌, ◌<◌, ◌≤◌, Bool, true, false, not, ◌==◌, ◌&&◌, IsTrue, Option, Some, ap, sym, refl, subst, ◌∙◌, arith, iff_false, eqb-true, eq-eqb, and_parts, true≢false, ranked, unsigned_tied, nat_cmp, is_eq, is_lt, is_le, is_some_and, partial_lt, partial_le, eq_by_cmp, ordering_then, MatchOrdering, Ordering, Less, Equal, Greater, Network, network_cmp, mask_of}

module _ {A : Type 0} (eq : A → A → Bool) (cmp : A → A → Ordering) (number : A → ℕ) where
  same_test : ((x y : A) → eq x y ≡ eq_by_cmp cmp x y)
      → ((x y : A) → cmp x y ≡ nat_cmp (number x) (number y)) → (x y : A)
      → eq x y ≡ (number x == number y)
  same_test matches order x y = matches x y ∙ ap is_eq (order x y) ∙ unsigned_tied (number x) (number y)

  -- what `!=` returns
  pub differ_not : ((x y : A) → eq x y ≡ eq_by_cmp cmp x y) → ((x y : A) → cmp x y ≡ nat_cmp (number x) (number y))
      → (x y : A) (answer : Bool)
      → answer ≡ not (eq x y) → answer ≡ false → number x ≡ number y
  differ_not matches order x y answer is told =
      let same = same_test matches order x y in
      eqb-true (number x) (number y) (grind (arith, same, is, told))

  pub differ : ((x y : A) → eq x y ≡ eq_by_cmp cmp x y) → ((x y : A) → cmp x y ≡ nat_cmp (number x) (number y))
      → (x y : A) (answer : Bool)
      → answer ≡ not (eq x y) → answer ≡ true → number x ≢ number y
  differ matches order x y answer is told e =
      let same = same_test matches order x y in
      let t = eq-eqb (number x) (number y) e in
      grind (arith, same, is, told, t)

  -- what `==` returns
  pub alike : ((x y : A) → eq x y ≡ eq_by_cmp cmp x y) → ((x y : A) → cmp x y ≡ nat_cmp (number x) (number y))
      → (x y : A) (answer : Bool)
      → answer ≡ eq x y → IsTrue answer ↔ (number x ≡ number y)
  alike matches order x y answer is =
      let same : answer ≡ (number x == number y) = is ∙ same_test matches order x y in
      ((λ t. eqb-true (number x) (number y) (sym same ∙ t)), (λ e. same ∙ eq-eqb (number x) (number y) e))

less_told : (x y : ℕ) (r : Ordering) → MatchOrdering r (x < y) (x ≡ y) (y < x) → IsTrue (is_lt r) ↔ (x < y)
less_told x y Less h = ((λ t. h), (λ l. refl))
less_told x y Equal h = ((λ t. absurd (true≢false (sym t))), (λ l. absurd (omega arith)))
less_told x y Greater h = ((λ t. absurd (true≢false (sym t))), (λ l. absurd (omega arith)))

at_most_told : (x y : ℕ) (r : Ordering) → MatchOrdering r (x < y) (x ≡ y) (y < x) → IsTrue (is_le r) ↔ (x ≤ y)
at_most_told x y Less h = ((λ t. omega arith), (λ l. refl))
at_most_told x y Equal h = ((λ t. omega arith), (λ l. refl))
at_most_told x y Greater h = ((λ t. absurd (true≢false (sym t))), (λ l. absurd (omega arith)))

module _ {A : Type 0} (partial : A → A → Option Ordering) (cmp : A → A → Ordering) (number : A → ℕ) where
  -- what `<` returns
  pub less : ((x y : A) → partial x y ≡ Some (cmp x y)) → ((x y : A) → cmp x y ≡ nat_cmp (number x) (number y))
      → (x y : A) (answer : Bool)
      → answer ≡ partial_lt partial x y → IsTrue answer ↔ (number x < number y)
  less matches order x y answer is =
      subst (λ (b : Bool). IsTrue b ↔ (number x < number y)) (sym (is ∙ ap (is_some_and is_lt) (matches x y)))
      (less_told (number x) (number y) (cmp x y) (ranked (number x) (number y) (cmp x y) (order x y)))

  pub not_less : ((x y : A) → partial x y ≡ Some (cmp x y)) → ((x y : A) → cmp x y ≡ nat_cmp (number x) (number y))
      → (x y : A) (answer : Bool)
      → answer ≡ partial_lt partial x y → answer ≡ false → number y ≤ number x
  not_less matches order x y answer is fails =
      let told : number x < number y → ⊥ = iff_false (less matches order x y answer is) fails in
      omega arith

  -- what `<=` returns
  pub at_most : ((x y : A) → partial x y ≡ Some (cmp x y)) → ((x y : A) → cmp x y ≡ nat_cmp (number x) (number y))
      → (x y : A) (answer : Bool)
      → answer ≡ partial_le partial x y → IsTrue answer ↔ (number x ≤ number y)
  at_most matches order x y answer is =
      subst (λ (b : Bool). IsTrue b ↔ (number x ≤ number y)) (sym (is ∙ ap (is_some_and is_le) (matches x y)))
      (at_most_told (number x) (number y) (cmp x y) (ranked (number x) (number y) (cmp x y) (order x y)))

  pub not_at_most : ((x y : A) → partial x y ≡ Some (cmp x y)) → ((x y : A) → cmp x y ≡ nat_cmp (number x) (number y))
      → (x y : A) (answer : Bool)
      → answer ≡ partial_le partial x y → answer ≡ false → number y < number x
  not_at_most matches order x y answer is fails =
      let told : number x ≤ number y → ⊥ = iff_false (at_most matches order x y answer is) fails in
      omega arith

-- networks of a family are compared by address and prefix length
both_equal : (o p : Ordering) → is_eq (ordering_then o p) ≡ (is_eq o && is_eq p)
both_equal Less p = refl
both_equal Equal p = refl
both_equal Greater p = refl

module _ {A : Type 0} (eq : A → A → Bool) (cmp : A → A → Ordering) (pair : A → Network) where
  same_network_test : ((x y : A) → eq x y ≡ eq_by_cmp cmp x y)
      → ((x y : A) → cmp x y ≡ network_cmp (pair x) (pair y)) → (x y : A)
      → eq x y ≡ (((pair x).address == (pair y).address) && ((pair x).prefix == (pair y).prefix))
  same_network_test matches order x y =
      let a : Ordering = nat_cmp (pair x).address (pair y).address in
      let b : Ordering = nat_cmp (pair x).prefix (pair y).prefix in
      matches x y ∙ ap is_eq (order x y) ∙ both_equal a b
      ∙ ap (λ k. k && is_eq b) (unsigned_tied (pair x).address (pair y).address)
      ∙ ap (λ k. ((pair x).address == (pair y).address) && k) (unsigned_tied (pair x).prefix (pair y).prefix)

  -- what `==` returns
  pub same_network : ((x y : A) → eq x y ≡ eq_by_cmp cmp x y) → ((x y : A) → cmp x y ≡ network_cmp (pair x) (pair y))
      → (x y : A) (answer : Bool)
      → answer ≡ eq x y → answer ≡ true → pair x ≡ pair y
  same_network matches order x y answer is told =
      let a : Bool = (pair x).address == (pair y).address in
      let b : Bool = (pair x).prefix == (pair y).prefix in
      let both = and_parts a b (sym (same_network_test matches order x y) ∙ sym is ∙ told) in
      let of : ℕ → ℕ → Network = λ address prefix. record { address = address; prefix = prefix } in
      ap (λ k. of k (pair x).prefix) (eqb-true (pair x).address (pair y).address both.0)
      ∙ ap (of (pair y).address) (eqb-true (pair x).prefix (pair y).prefix both.1)

  -- what `==` returns for networks with the same prefix length
  pub other_network : ((x y : A) → eq x y ≡ eq_by_cmp cmp x y) → ((x y : A) → cmp x y ≡ network_cmp (pair x) (pair y))
      → (x y : A) (answer : Bool)
      → answer ≡ eq x y → answer ≡ false → (pair x).prefix ≡ (pair y).prefix → (pair x).address ≢ (pair y).address
  other_network matches order x y answer is told length at =
      let same = same_network_test matches order x y in
      let t = eq-eqb (pair x).address (pair y).address at in
      let u = eq-eqb (pair x).prefix (pair y).prefix length in
      true≢false (sym (ap (λ k. k && ((pair x).prefix == (pair y).prefix)) t ∙ u) ∙ sym same ∙ sym is ∙ told)

-- the longest mask and the shortest
pub full_mask : (w : ℕ) → mask_of w w ≡ 2 ^ w - 1
full_mask w = let none : w - w ≡ 0 = omega arith in ap (λ k. 2 ^ w - 2 ^ k) none

pub empty_mask : (w : ℕ) → mask_of w 0 ≡ 0
empty_mask w =
    let all : w - 0 ≡ w = omega arith in
    let none : 2 ^ w - 2 ^ w ≡ 0 = omega arith in
    ap (λ k. 2 ^ w - 2 ^ k) all ∙ none
