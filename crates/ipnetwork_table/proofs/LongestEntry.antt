-- The longest block that holds an address, computed from the entries of a table.
use Rattle.ipnetwork_table.proofs.Words.{◌≡◌, ℕ, zero, suc, ◌≤◌, true, false, cond, List, [], ◌∷◌, Option, Some, None, sym, refl, ap, subst, ◌∙◌, arith, slice_get, is_some, inl, inr, IsSome, MatchOption, FinMap, get, entries, unwrap_or, leb_tells, MembershipComputed, Network, Member, network_cmp, is_member, AnswerIsComputed, Answers, longer, longest_of}
use Rattle.ipnetwork_table.proofs.Listing.{listed_is_stored, stored_is_listed}

no_truth : false ≡ true → ⊥
no_truth e = cc

module _ (V : Type 0) (computed : MembershipComputed) where
  abbrev Entry : Type 0
  Entry = Network × V

  nothing : (entry : Entry) → None ≡ Some entry → ⊥
  nothing entry e = no_truth (ap is_some e)

  same_entry : (a b : Entry) → Some a ≡ Some b → a ≡ b
  same_entry a b same = ap (λ o. unwrap_or o a) same

  value_of : (o : Option V) → IsSome o → (v : V) × (o ≡ Some v)
  value_of None some = absurd (no_truth some)
  value_of (Some v) some = (v, refl)

  -- ---- the longest of a list

  abbrev IsListed : List Entry → Entry → Type 0
  IsListed es e = (i : ℕ) × (slice_get es i ≡ Some e)

  -- the entry is listed, its block holds x, and no listed block that holds x is longer
  abbrev IsBest : ℕ → ℕ → List Entry → Entry → Type 0
  IsBest w x es e = IsListed es e × Member w e.0 x × ((other : Entry) → IsListed es other → Member w other.0 x
      → other.0.prefix ≤ e.0.prefix)

  abbrev HoldsNone : ℕ → ℕ → List Entry → Type 0
  HoldsNone w x es = (e : Entry) → IsListed es e → ¬ (Member w e.0 x)

  abbrev Best : ℕ → ℕ → List Entry → Option Entry → Type 0
  Best w x es found = MatchOption found (HoldsNone w x es) (IsBest w x es)

  -- what holds for the first entry and for all others holds for each entry
  each : (P : Entry → Type 0) (e : Entry) (es : List Entry) → P e → ((other : Entry) → IsListed es other → P other)
      → (other : Entry) → IsListed (e ∷ es) other → P other
  each P e es first others other (zero, at) = subst P (same_entry e other at) first
  each P e es first others other (suc i, at) = others other (i, at)

  passed_over : (w x : ℕ) (e : Entry) (es : List Entry) (found : Option Entry) → ¬ (Member w e.0 x) → Best w x es found
      → Best w x (e ∷ es) found
  passed_over w x e es None out best = each (λ d. ¬ (Member w d.0 x)) e es out best
  passed_over w x e es (Some d) out best = (
    (suc best.0.0, best.0.1),
    best.1,
    each (λ f. Member w f.0 x → f.0.prefix ≤ d.0.prefix) e es (λ holds. absurd (out holds)) best.2,
  )

  taken : (w x : ℕ) (e : Entry) (es : List Entry) (found : Option Entry) → Member w e.0 x → Best w x es found
      → Best w x (e ∷ es) (longer e found)
  taken w x e es None holds best = (
    (0, refl),
    holds,
    each (λ f. Member w f.0 x → f.0.prefix ≤ e.0.prefix) e es (λ same. omega arith)
        (λ f at within. absurd (best f at within)),
  )
  taken w x e es (Some d) holds best = elim (leb_tells d.0.prefix e.0.prefix) [
    | inl shorter ↦ subst (Best w x (e ∷ es)) (sym (ap (λ b. cond b (Some e) (Some d)) shorter.0))
        ((
          (0, refl),
          holds,
          each (λ f. Member w f.0 x → f.0.prefix ≤ e.0.prefix) e es (λ same. omega arith)
              (λ f at within. omega (arith, shorter.1, best.2 f at within)),
        ))
    | inr more ↦ subst (Best w x (e ∷ es)) (sym (ap (λ b. cond b (Some e) (Some d)) more.0))
        ((
          (suc best.0.0, best.0.1),
          best.1,
          each (λ f. Member w f.0 x → f.0.prefix ≤ d.0.prefix) e es (λ within. omega (arith, more.1)) best.2,
        ))
  ]

  best_of : (w x : ℕ) (es : List Entry) → Best w x es (longest_of w x es)
  best_of w x [] = λ e at. absurd (nothing e at.1)
  best_of w x (e ∷ es) =
      let rest = longest_of w x es in
      elim (is_member w e.0 x) as (λ b. is_member w e.0 x ≡ b → Best w x (e ∷ es) (cond b (longer e rest) rest)) [
        | true ↦ λ is. taken w x e es rest ((computed w e.0 x).0 is) (best_of w x es)
        | false ↦ λ is. passed_over w x e es rest (λ holds. no_truth (sym is ∙ (computed w e.0 x).1 holds))
            (best_of w x es)
      ] refl

  -- ---- the longest of a table

  in_table : (w : ℕ) (t : FinMap network_cmp V) (x : ℕ) (found : Option Entry) → Best w x (entries t) found
      → Answers w t x found
  in_table w t x None best = λ n stored holds.
      let v = value_of (get t n) stored in best (n, v.0) (stored_is_listed t n v.0 v.1) holds
  in_table w t x (Some e) best = record {
    stored = listed_is_stored t best.0.0 e.0 e.1 best.0.1;
    holds = best.1;
    longest = λ m stored holds. let v = value_of (get t m) stored in
        best.2 (m, v.0) (stored_is_listed t m v.0 v.1) holds;
  }

  -- the computed result is the result of a look-up
  pub computed_answers : AnswerIsComputed V
  computed_answers w t x = in_table w t x _ (best_of w x (entries t))
