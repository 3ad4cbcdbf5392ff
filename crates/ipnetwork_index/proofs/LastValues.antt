-- The values of a list's entries in a table.
use Rattle.ipnetwork_index.proofs.Words.{◌≡◌, ◌+◌, ◌≤◌, ⊎_elim, ℕ, length, take, true, false, cond, List, [], ◌∷◌, ◌++◌, refl, sym, ap, subst, ◌∙◌, append_assoc, true≢false, MatchOption, FinMap, get, insert, empty, get-empty, get-insert, Contains, eq_by_cmp, eq_by_cmp_equiv, take_all, map_push, Contains-append_cases, contains_cons, contains_nil, Network, block_of, network_cmp, by_pair, total, one_network, tie_of, NoneHasBlock, IsLastValue, HasLastValues}
use Rattle.std.specs.Prelude.{None, Some, Option}

pub no_entries : {V : Type 0} (w : ℕ) (t : FinMap network_cmp V) → t ≡ empty → HasLastValues w [] t
no_entries {V} w t is block =
    subst (λ (o : Option V). MatchOption o (NoneHasBlock {V = V} w block []) (IsLastValue {V = V} w block []))
    (sym (ap (λ t. get t block) is ∙ get-empty network_cmp block))
    (λ entry c. absurd (contains_nil entry c))

module _ {V : Type 0} (w : ℕ) (entries : List (Network × V)) (n : Network) (v : V) (block : Network)
    (differs : ¬ (block_of w n ≡ block)) where
  none_more : NoneHasBlock w block entries → NoneHasBlock w block (entries ++ (n, v) ∷ [])
  none_more none entry c = ⊎_elim
      (λ (left : Contains entries entry). none entry left)
      (λ (right : Contains ((n, v) ∷ []) entry). ⊎_elim
      (λ (same : (n, v) ≡ entry) (has : block_of w entry.0 ≡ block). differs
      (ap (λ (e : Network × V). block_of w e.0) same ∙ has))
      (λ nothing. absurd (contains_nil entry nothing))
      (contains_cons (n, v) [] entry right))
      (Contains-append_cases entries ((n, v) ∷ []) entry c)

module _ {V : Type 0} (w : ℕ) (entries : List (Network × V)) (n : Network) (v : V) (block : Network)
    (differs : ¬ (block_of w n ≡ block)) where
  last_more : (value : V) → IsLastValue w block entries value → IsLastValue w block (entries ++ (n, v) ∷ []) value
  last_more value last = record {
    before = last.before;
    network = last.network;
    behind = last.behind ++ (n, v) ∷ [];
    entries_are = ap (λ (l : List (Network × V)). l ++ (n, v) ∷ []) last.entries_are
        ∙ append_assoc last.before ((last.network, value) ∷ last.behind) ((n, v) ∷ []);
    has_block = last.has_block;
    is_last = none_more w last.behind n v block differs last.is_last;
  }

module _ {V : Type 0} (w : ℕ) (t : FinMap network_cmp V) (entries : List (Network × V)) (n : Network) (v : V) where
  key : Network
  key = block_of w n

  Has : Network → Option V → Type 0
  Has block found = MatchOption found (NoneHasBlock w block (entries ++ (n, v) ∷ []))
      (IsLastValue w block (entries ++ (n, v) ∷ []))

  kept : (block : Network) → ¬ (block_of w n ≡ block) → (found : Option V)
      → MatchOption found (NoneHasBlock w block entries) (IsLastValue w block entries) → Has block found
  unfolding Has
  kept block differs None none = none_more w entries n v block differs none
  kept block differs (Some value) last = last_more w entries n v block differs value last

  one_more : HasLastValues w entries t → HasLastValues w (entries ++ (n, v) ∷ []) (insert t (block_of w n) v)
  unfolding key Has
  one_more has block =
      elim (eq_by_cmp network_cmp block key) as (λ b. eq_by_cmp network_cmp block key ≡ b
      → get (insert t key v) block ≡ cond b (Some v) (get t block) → Has block (get (insert t key v) block)) [
        | true ↦ λ at is. subst (Has block) (sym is) (record {
          before = entries;
          network = n;
          behind = [];
          entries_are = refl;
          has_block = sym (one_network block key (tie_of _ at));
          is_last = λ entry c. absurd (contains_nil entry c);
        })
        | false ↦ λ apart is. subst (Has block) (sym is)
            (kept block (λ same. true≢false (sym (subst (λ (x : Network). eq_by_cmp network_cmp block x ≡ true)
            (sym same) ((eq_by_cmp_equiv total).refl block)) ∙ apart)) (get t block) (has block))
      ] refl (get-insert total t key v block)

-- the last values with one more entry of a list
module _ {V N : Type 0} (pair : N → Network) (w : ℕ) (entries : List (N × V)) where
  pub one_entry_more : (t new : FinMap network_cmp V) (i : ℕ) (e : N × V) → take (i + 1) entries ≡ take i entries ++ e
      ∷ [] → new ≡ insert t (block_of w (pair e.0)) e.1
      → HasLastValues w (by_pair pair (take i entries)) t → HasLastValues w (by_pair pair (take (i + 1) entries)) new
  one_entry_more t new i e more is has =
      subst (λ (m : FinMap network_cmp V). HasLastValues w (by_pair pair (take (i + 1) entries)) m) (sym is)
      (subst (λ (l : List (Network × V)). HasLastValues w l (insert t (block_of w (pair e.0)) e.1))
      (sym (ap (by_pair pair) more ∙ map_push (λ (e : N × V). (pair e.0, e.1)) (take i entries) e))
      (one_more w t (by_pair pair (take i entries)) (pair e.0) e.1 has))

  pub all_entries : (t : FinMap network_cmp V) (i : ℕ) → length entries ≤ i
      → HasLastValues w (by_pair pair (take i entries)) t → HasLastValues w (by_pair pair entries) t
  all_entries t i past has = subst (λ (l : List (N × V)). HasLastValues w (by_pair pair l) t)
      (take_all i entries past) has
