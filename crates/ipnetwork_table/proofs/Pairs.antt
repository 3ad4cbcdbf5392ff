-- The entries of an ordered map, with its keys converted to networks, as a finite map.
use Rattle.ipnetwork_table.proofs.Words.{◌≡◌, ℕ, suc, Bool, true, false, cond, ◌&&◌, T, List, [], ◌∷◌, length, Some, None, sym, refl, ap, subst, ◌∙◌, arith, Ordering, Less, Equal, Greater, IsTotalOrder, nat_cmp_total, nat_cmp, eq_by_cmp, is_eq, is_lt, match_ordering, AllByRecursion, IsStrictlySortedBy, lookup, remove_entry, keys_of, insert_entry, is_at, FinMap, empty, get, insert, remove, len, entries, from_entries, find, put, is_sorted, get-from_entries, get-insert, get-remove, len-empty, len-entries, entries-insert, same_map, IsAntisymmetric, find-put, by_order, below_all, then_total, on_total, exact_pairs, exact_unsigned, Network, network_cmp, by_pair}

pub total : IsTotalOrder network_cmp
total = then_total (on_total (λ n. n.address) nat_cmp_total) (on_total (λ n. n.prefix) nat_cmp_total)

-- networks that compare equal are equal
pub one_network : IsAntisymmetric network_cmp
one_network a b tie =
    ap (λ (numbers : ℕ × ℕ). record { address = numbers.0; prefix = numbers.1 })
    (exact_pairs nat_cmp nat_cmp exact_unsigned exact_unsigned (a.address, a.prefix) (b.address, b.prefix) tie)

pub tie_of : (o : Ordering) → is_eq o ≡ true → o ≡ Equal
tie_of Less e = absurd (cc)
tie_of Equal e = refl
tie_of Greater e = absurd (cc)

both_hold : (a b : Bool) → T a → T b → T (a && b)
both_hold true b p q = q
both_hold false b p q = p

pub first_holds : (a b : Bool) → T (a && b) → T a
first_holds true b p = tt
first_holds false b p = p

pub second_holds : (a b : Bool) → T (a && b) → T b
second_holds true b p = p
second_holds false b p = absurd p

pub before : (o : Ordering) → T (is_lt o) → o ≡ Less
before Less p = refl
before Equal p = absurd p
before Greater p = absurd p

-- the finite map made of sorted entries has these entries
module _ {V : Type 0} where
  no_entries : (es : List (Network × V)) → length es ≡ 0 → es ≡ []
  no_entries [] none = refl
  no_entries (e ∷ es) none = absurd (omega (arith, none))

  put_in_front : (n : Network) (v : V) (es : List (Network × V)) → T (below_all network_cmp n es)
      → put network_cmp n v es ≡ (n, v) ∷ es
  put_in_front n v [] below = refl
  put_in_front n v (e ∷ es) below =
      ap (λ o. by_order o ((n, v) ∷ e ∷ es) ((e.0, v) ∷ es) (e ∷ put network_cmp n v es))
      (before (network_cmp n e.0) (first_holds _ _ below))

  pub entries_of_sorted : (es : List (Network × V)) → T (is_sorted network_cmp es)
      → entries (from_entries {R = network_cmp} es) ≡ es
  entries_of_sorted [] sorted = no_entries (entries (empty {R = network_cmp}))
      (sym (len-entries empty) ∙ len-empty network_cmp V)
  entries_of_sorted (e ∷ es) sorted =
      entries-insert total (from_entries es) e.0 e.1
      ∙ ap (put network_cmp e.0 e.1) (entries_of_sorted es (second_holds _ _ sorted))
      ∙ put_in_front e.0 e.1 es (first_holds _ _ sorted)

module _ {K : Type 0} (pair : K → Network) (cmp : K → K → Ordering) (law : (a b : K)
    → cmp a b ≡ network_cmp (pair a) (pair b)) where
  same_key : (k n : K) → is_at (cmp k) n ≡ true → pair k ≡ pair n
  same_key k n at = one_network (pair k) (pair n) (sym (law k n) ∙ tie_of (cmp k n) at)

module _ {K V : Type 0} (pair : K → Network) (cmp : K → K → Ordering) (law : (a b : K)
    → cmp a b ≡ network_cmp (pair a) (pair b)) where
  abbrev table_of : List (K × V) → FinMap network_cmp V
  table_of es = from_entries {R = network_cmp} (by_pair pair es)

  -- ---- looking up

  find_by_pair : (es : List (K × V)) (k : K) → find network_cmp (pair k) (by_pair pair es) ≡ lookup (is_at (cmp k)) es
  find_by_pair [] k = refl
  find_by_pair (e ∷ es) k =
      ap (λ o. cond (is_eq o) (Some e.1) (find network_cmp (pair k) (by_pair pair es))) (sym (law k e.0))
      ∙ ap (cond (is_eq (cmp k e.0)) (Some e.1)) (find_by_pair es k)

  pub value_at : (es : List (K × V)) (k : K) → get (table_of es) (pair k) ≡ lookup (is_at (cmp k)) es
  value_at es k = get-from_entries total (by_pair pair es) (pair k) ∙ find_by_pair es k

  -- ---- inserting

  put_by_pair : (es : List (K × V)) (k : K) (v : V)
      → by_pair pair (insert_entry cmp es k v) ≡ put network_cmp (pair k) v (by_pair pair es)
  put_by_pair [] k v = refl
  put_by_pair (e ∷ es) k v =
      let front = (pair k, v) ∷ by_pair pair (e ∷ es) in
      let here = (pair e.0, v) ∷ by_pair pair es in
      let later = (pair e.0, e.1) ∷ put network_cmp (pair k) v (by_pair pair es) in
      elim (cmp k e.0) as (λ o. o ≡ network_cmp (pair k) (pair e.0)
      → by_pair pair (match_ordering o ((k, v) ∷ e ∷ es) ((e.0, v) ∷ es) (e ∷ insert_entry cmp es k v)) ≡ put
      network_cmp (pair k) v (by_pair pair (e ∷ es))) [
        | Less ↦ λ is. ap (λ o. by_order o front here later) is
        | Equal ↦ λ is. ap (λ o. by_order o front here later) is
        | Greater ↦ λ is. ap (λ rest. (pair e.0, e.1) ∷ rest) (put_by_pair es k v)
            ∙ ap (λ o. by_order o front here later) is
      ] (law k e.0)

  pub inserted : (es fs : List (K × V)) (k : K) (v : V) → fs ≡ insert_entry cmp es k v
      → table_of fs ≡ insert (table_of es) (pair k) v
  inserted es fs k v is = same_map total one_network _ _ (λ n.
      get-from_entries total (by_pair pair fs) n
      ∙ ap (find network_cmp n) (ap (by_pair pair) is ∙ put_by_pair es k v)
      ∙ find-put network_cmp total n (pair k) v (by_pair pair es)
      ∙ ap (cond (eq_by_cmp network_cmp n (pair k)) (Some v)) (sym (get-from_entries total (by_pair pair es) n))
      ∙ sym (get-insert total (table_of es) (pair k) v n))

  -- ---- removing

  others_stay : (es : List (K × V)) (k : K) (n : Network) → eq_by_cmp network_cmp n (pair k) ≡ false
      → find network_cmp n (by_pair pair (remove_entry (is_at (cmp k)) es)) ≡ find network_cmp n (by_pair pair es)
  others_stay [] k n apart = refl
  others_stay (e ∷ es) k n apart =
      elim (is_at (cmp k) e.0) as (λ b. is_at (cmp k) e.0 ≡ b
      → find network_cmp n (by_pair pair (cond b es (e ∷ remove_entry (is_at (cmp k)) es))) ≡ find network_cmp n
      (by_pair pair (e ∷ es))) [
        | true ↦ λ at. sym (ap (λ b. cond b (Some e.1) (find network_cmp n (by_pair pair es)))
            (ap (eq_by_cmp network_cmp n) (sym (same_key pair cmp law k e.0 at)) ∙ apart))
        | false ↦ λ at. ap (cond (eq_by_cmp network_cmp n (pair e.0)) (Some e.1)) (others_stay es k n apart)
      ] refl

  pub removed : (es fs : List (K × V)) (k : K) → fs ≡ remove_entry (is_at (cmp k)) es → lookup (is_at (cmp k)) fs ≡ None
      → table_of fs ≡ remove (table_of es) (pair k)
  removed es fs k is gone = same_map total one_network _ _ (λ n.
      elim (eq_by_cmp network_cmp n (pair k)) as (λ b. eq_by_cmp network_cmp n (pair k) ≡ b
      → get (table_of fs) n ≡ cond b None (get (table_of es) n)) [
        | true ↦ λ at. ap (get (table_of fs)) (one_network n (pair k) (tie_of _ at)) ∙ value_at fs k ∙ gone
        | false ↦ λ apart. get-from_entries total (by_pair pair fs) n
            ∙ ap (λ l. find network_cmp n (by_pair pair l)) is
            ∙ others_stay es k n apart
            ∙ sym (get-from_entries total (by_pair pair es) n)
      ] refl
      ∙ sym (get-remove total (table_of es) (pair k) n))

  -- ---- counting and listing

  before_all : (k : K) (es : List (K × V)) → AllByRecursion (λ q. cmp k q ≡ Less) (keys_of es)
      → T (below_all network_cmp (pair k) (by_pair pair es))
  before_all k [] less = tt
  before_all k (e ∷ es) less = both_hold _ _ (subst (λ o. T (is_lt o)) (sym (sym (law k e.0) ∙ less.0)) tt)
      (before_all k es less.1)

  sorted_by_pair : (es : List (K × V)) → IsStrictlySortedBy cmp (keys_of es)
      → T (is_sorted network_cmp (by_pair pair es))
  unfolding IsStrictlySortedBy
  sorted_by_pair [] sorted = tt
  sorted_by_pair (e ∷ es) sorted = both_hold _ _ (before_all e.0 es sorted.0) (sorted_by_pair es sorted.1)

  pub listed : (es : List (K × V)) → IsStrictlySortedBy cmp (keys_of es) → by_pair pair es ≡ entries (table_of es)
  listed es sorted = sym (entries_of_sorted (by_pair pair es) (sorted_by_pair es sorted))

  count_by_pair : (es : List (K × V)) → length es ≡ length (by_pair pair es)
  count_by_pair [] = refl
  count_by_pair (e ∷ es) = ap suc (count_by_pair es)

  pub counted : (es : List (K × V)) → IsStrictlySortedBy cmp (keys_of es) → length es ≡ len (table_of es)
  counted es sorted = count_by_pair es ∙ ap length (listed es sorted) ∙ sym (len-entries (table_of es))
