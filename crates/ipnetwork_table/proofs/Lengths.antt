-- How many stored blocks have a given prefix length.
use Rattle.ipnetwork_table.proofs.Words.{◌≡◌, ◌≢◌, ℕ, ◌+◌, ◌-◌, ◌<◌, ◌≤◌, ◌==◌, Bool, true, false, cond, List, [], ◌∷◌, length, get_or, set, is_some, Option, Some, None, sym, refl, ap, ◌∙◌, arith, IsSome, eq_by_cmp, FinMap, get, insert, remove, empty, len, entries, from_entries, retain_keys, get-empty, get-entries, get-from_entries, get-insert, get-remove, get-retain_keys, len-empty, len-entries, len-insert, len-remove, empty_of_len, same_map, Decides-eqb, get_or-set_same, get_or-set_other, Network, network_cmp, count_of_length, CountsLengths, IsLastUsedUpTo, NoneUsedUpTo, NoneAbove, NoneHolds, cases_lt, ⊎_elim}
use Rattle.ipnetwork_table.proofs.Keys.{nothing}
use Rattle.ipnetwork_table.proofs.Pairs.{total, one_network, tie_of}

one_more_at_most : (b : Bool) (n : ℕ) → cond b n (n + 1) ≤ n + 1
one_more_at_most true n = omega arith
one_more_at_most false n = omega arith

-- ---- the keys that pass a test, after an insertion and a removal

module _ {V : Type 0} (test : Network → Bool) where
  kept : (t : FinMap network_cmp V) (n : Network) → get (retain_keys t test) n ≡ cond (test n) (get t n) None
  kept t n = get-retain_keys t test n (λ m tie. ap test (sym (one_network n m tie)))

  kept_of_none : retain_keys (empty {X = V} {R = network_cmp}) test ≡ empty
  kept_of_none = same_map total one_network _ _ (λ n.
      kept empty n
      ∙ ap (λ o. cond (test n) o None) (get-empty network_cmp n)
      ∙ elim (test n) as (λ b. cond {A = Option V} b None None ≡ None) [ true ↦ refl | false ↦ refl ]
      ∙ sym (get-empty network_cmp n))

  kept_with : (t : FinMap network_cmp V) (m : Network) (v : V) → test m ≡ true
      → retain_keys (insert t m v) test ≡ insert (retain_keys t test) m v
  kept_with t m v passes = same_map total one_network _ _ (λ n.
      kept (insert t m v) n
      ∙ ap (λ o. cond (test n) o None) (get-insert total t m v n)
      ∙ elim (eq_by_cmp network_cmp n m) as (λ b. eq_by_cmp network_cmp n m ≡ b
      → cond (test n) (cond b (Some v) (get t n)) None ≡ cond b (Some v) (cond (test n) (get t n) None)) [
        | true ↦ λ at. ap (λ b. cond b (Some v) None) (ap test (one_network n m (tie_of _ at)) ∙ passes)
        | false ↦ λ apart. refl
      ] refl
      ∙ ap (cond (eq_by_cmp network_cmp n m) (Some v)) (sym (kept t n))
      ∙ sym (get-insert total (retain_keys t test) m v n))

  kept_beside : (t : FinMap network_cmp V) (m : Network) (v : V) → test m ≡ false
      → retain_keys (insert t m v) test ≡ retain_keys t test
  kept_beside t m v fails = same_map total one_network _ _ (λ n.
      kept (insert t m v) n
      ∙ ap (λ o. cond (test n) o None) (get-insert total t m v n)
      ∙ elim (eq_by_cmp network_cmp n m) as (λ b. eq_by_cmp network_cmp n m ≡ b
      → cond (test n) (cond b (Some v) (get t n)) None ≡ cond (test n) (get t n) None) [
        | true ↦ λ at. let not_kept : test n ≡ false = ap test (one_network n m (tie_of _ at)) ∙ fails in
            ap (λ b. cond b (Some v) None) not_kept ∙ sym (ap (λ b. cond b (get t n) None) not_kept)
        | false ↦ λ apart. refl
      ] refl
      ∙ sym (kept t n))

  kept_without : (t : FinMap network_cmp V) (m : Network)
      → retain_keys (remove t m) test ≡ remove (retain_keys t test) m
  kept_without t m = same_map total one_network _ _ (λ n.
      kept (remove t m) n
      ∙ ap (λ o. cond (test n) o None) (get-remove total t m n)
      ∙ elim (eq_by_cmp network_cmp n m) as (λ b. cond (test n) (cond b None (get t n)) None ≡ cond b None
      (cond (test n) (get t n) None)) [
        | true ↦ elim (test n) as (λ b. cond {A = Option V} b None None ≡ None) [ true ↦ refl | false ↦ refl ]
        | false ↦ refl
      ]
      ∙ ap (cond (eq_by_cmp network_cmp n m) None) (sym (kept t n))
      ∙ sym (get-remove total (retain_keys t test) m n))

  -- whether a key is among those that pass
  key_kept : (t : FinMap network_cmp V) (m : Network)
      → is_some (get (retain_keys t test) m) ≡ cond (test m) (is_some (get t m)) false
  key_kept t m = ap is_some (kept t m) ∙ elim (test m) as (λ b. is_some (cond b (get t m) None) ≡ cond b
      (is_some (get t m)) false) [ true ↦ refl | false ↦ refl ]

  -- ---- the number of keys that pass

  listed_at_most : (es : List (Network × V)) → len (retain_keys (from_entries {R = network_cmp} es) test) ≤ length es
  listed_at_most [] = let none : len (retain_keys (empty {X = V} {R = network_cmp}) test) ≡ 0 = ap len kept_of_none
      ∙ len-empty network_cmp V in omega (arith, none)
  listed_at_most (e ∷ es) =
      let others = from_entries {R = network_cmp} es in
      let before = listed_at_most es in
      elim (test e.0) as (λ b. test e.0 ≡ b → len (retain_keys (insert others e.0 e.1) test) ≤ length (e ∷ es)) [
        | true ↦ λ passes.
            let now : len (retain_keys (insert others e.0 e.1) test) ≡ cond (is_some (get (retain_keys others test)
            e.0)) (len (retain_keys others test)) (len (retain_keys others test) + 1) =
            ap len (kept_with others e.0 e.1 passes) ∙ len-insert total (retain_keys others test) e.0 e.1 in
            let most = one_more_at_most (is_some (get (retain_keys others test) e.0)) (len (retain_keys others test)) in
            omega (arith, now, most, before)
        | false ↦ λ fails.
            let now : len (retain_keys (insert others e.0 e.1) test) ≡ len (retain_keys others test) =
            ap len (kept_beside others e.0 e.1 fails) in
            omega (arith, now, before)
      ] refl

  whole : (t : FinMap network_cmp V) → from_entries (entries t) ≡ t
  whole t = same_map total one_network _ _ (λ n. get-from_entries total (entries t) n ∙ sym (get-entries t n))

  at_most : (t : FinMap network_cmp V) → len (retain_keys t test) ≤ len t
  at_most t =
      let listed = listed_at_most (entries t) in
      let same : len (retain_keys (from_entries (entries t)) test) ≡ len (retain_keys t test) =
      ap (λ (s : FinMap network_cmp V). len (retain_keys s test)) (whole t) in
      let number = len-entries t in
      omega (arith, listed, same, number)

  -- after the insertion of a new key that passes
  one_more : (t : FinMap network_cmp V) (m : Network) (v : V) → test m ≡ true → get t m ≡ None
      → len (retain_keys (insert t m v) test) ≡ len (retain_keys t test) + 1
  one_more t m v passes new =
      let absent : is_some (get (retain_keys t test) m) ≡ false = key_kept t m
      ∙ ap (λ b. cond b (is_some (get t m)) false) passes ∙ ap is_some new in
      ap len (kept_with t m v passes)
      ∙ len-insert total (retain_keys t test) m v
      ∙ ap (λ b. cond b (len (retain_keys t test)) (len (retain_keys t test) + 1)) absent

  -- after the insertion of a key that is already stored
  no_more : (t : FinMap network_cmp V) (m : Network) (v : V) → IsSome (get t m)
      → len (retain_keys (insert t m v) test) ≡ len (retain_keys t test)
  no_more t m v stored = elim (test m) as (λ b. test m ≡ b
      → len (retain_keys (insert t m v) test) ≡ len (retain_keys t test)) [
        | true ↦ λ passes.
            let present : is_some (get (retain_keys t test) m) ≡ true = key_kept t m
            ∙ ap (λ b. cond b (is_some (get t m)) false) passes ∙ stored in
            ap len (kept_with t m v passes)
            ∙ len-insert total (retain_keys t test) m v
            ∙ ap (λ b. cond b (len (retain_keys t test)) (len (retain_keys t test) + 1)) present
        | false ↦ λ fails. ap len (kept_beside t m v fails)
      ] refl

  -- after the removal of a key
  after_removal : (t : FinMap network_cmp V) (m : Network)
      → len (retain_keys (remove t m) test) ≡ cond (cond (test m) (is_some (get t m)) false)
      (len (retain_keys t test) - 1) (len (retain_keys t test))
  after_removal t m =
      ap len (kept_without t m)
      ∙ len-remove total (retain_keys t test) m
      ∙ ap (λ b. cond b (len (retain_keys t test) - 1) (len (retain_keys t test))) (key_kept t m)

  -- a key that passes is counted
  some_kept : (t : FinMap network_cmp V) (m : Network) → test m ≡ true → IsSome (get t m) → len (retain_keys t test) ≢ 0
  some_kept t m passes stored none =
      let absent : is_some (get (retain_keys t test) m) ≡ false = ap (λ (s : FinMap network_cmp V). is_some (get s m))
      (empty_of_len (retain_keys t test) none) ∙ ap is_some (get-empty network_cmp m) in
      let present : is_some (get (retain_keys t test) m) ≡ true = key_kept t m
      ∙ ap (λ b. cond b (is_some (get t m)) false) passes ∙ stored in
      nothing (sym absent ∙ present)

-- ---- the counts of all prefix lengths

pub none_counted : (V : Type 0) (p : ℕ) → count_of_length (empty {X = V} {R = network_cmp}) p ≡ 0
none_counted V p = ap len (kept_of_none (λ (n : Network). n.prefix == p)) ∙ len-empty network_cmp V

module _ {V : Type 0} (t : FinMap network_cmp V) (counts : List ℕ) (counted : CountsLengths t counts) where
  pub is_counted : (m : Network) → m.prefix < 256 → IsSome (get t m) → 0 < get_or counts m.prefix 0
  is_counted m within stored =
      let is = counted m.prefix within in
      let some = some_kept (λ n. n.prefix == m.prefix) t m ((Decides-eqb m.prefix m.prefix).1 refl) stored in
      omega (arith, is, some)

  -- if each stored block that holds x has at most c bits, it has at most as many as the last prefix length in use up to c
  pub none_above_used : (w x c d : ℕ) → c < 256 → NoneAbove w t x c → IsLastUsedUpTo counts c d → NoneAbove w t x d
  none_above_used w x c d fits above last n stored beyond holds = ⊎_elim
      (λ (more : c < n.prefix). above n stored more holds)
      (λ (few : n.prefix ≤ c).
      let none = last.2 n.prefix beyond few in
      let some = is_counted n (omega (arith, few, fits)) stored in
      omega (arith, none, some))
      (cases_lt c n.prefix)

  -- and if there is none up to c, no stored block holds x
  pub none_used_holds : (w x c : ℕ) → c < 256 → NoneAbove w t x c → NoneUsedUpTo counts c → NoneHolds w t x
  none_used_holds w x c fits above unused n stored holds = ⊎_elim
      (λ (more : c < n.prefix). above n stored more holds)
      (λ (few : n.prefix ≤ c).
      let none = unused n.prefix few in
      let some = is_counted n (omega (arith, few, fits)) stored in
      omega (arith, none, some))
      (cases_lt c n.prefix)

  -- if the block is new, fewer blocks have its prefix length than there are blocks after the insertion
  pub room_for_one : (m : Network) (v : V) → m.prefix < 256 → get t m ≡ None
      → get_or counts m.prefix 0 < len (insert t m v)
  room_for_one m v within new =
      let is = counted m.prefix within in
      let more = one_more (λ n. n.prefix == m.prefix) t m v ((Decides-eqb m.prefix m.prefix).1 refl) new in
      let most = at_most (λ n. n.prefix == m.prefix) (insert t m v) in
      omega (arith, is, more, most)

  module _ (m : Network) (within : m.prefix < length counts) where
    here : (p : ℕ) → (m.prefix == p) ≡ true → p < 256 → get_or counts m.prefix 0 ≡ count_of_length t p
    here p same fits = ap (λ q. get_or counts q 0) ((Decides-eqb m.prefix p).0 same) ∙ counted p fits

    set_here : (p x : ℕ) → (m.prefix == p) ≡ true → get_or (set counts m.prefix x) p 0 ≡ x
    set_here p x same = ap (λ q. get_or (set counts m.prefix x) q 0) (sym ((Decides-eqb m.prefix p).0 same))
        ∙ get_or-set_same counts m.prefix x 0 within

    set_beside : (p x : ℕ) → (m.prefix == p) ≡ false → get_or (set counts m.prefix x) p 0 ≡ get_or counts p 0
    set_beside p x other = get_or-set_other counts m.prefix p x 0
        (λ at. nothing (sym other ∙ (Decides-eqb m.prefix p).1 (sym at)))

    pub counted_with : (v : V) → get t m ≡ None
        → CountsLengths (insert t m v) (set counts m.prefix (get_or counts m.prefix 0 + 1))
    counted_with v new p fits =
        elim (m.prefix == p) as (λ b. (m.prefix == p) ≡ b
        → get_or (set counts m.prefix (get_or counts m.prefix 0 + 1)) p 0 ≡ count_of_length (insert t m v) p) [
          | true ↦ λ same. set_here p _ same ∙ ap (λ n. n + 1) (here p same fits)
              ∙ sym (one_more (λ n. n.prefix == p) t m v same new)
          | false ↦ λ other. set_beside p _ other ∙ counted p fits
              ∙ sym (ap len (kept_beside (λ n. n.prefix == p) t m v other))
        ] refl

    pub counted_without : IsSome (get t m)
        → CountsLengths (remove t m) (set counts m.prefix (get_or counts m.prefix 0 - 1))
    counted_without stored p fits =
        let number = count_of_length t p in
        elim (m.prefix == p) as (λ b. (m.prefix == p) ≡ b
        → get_or (set counts m.prefix (get_or counts m.prefix 0 - 1)) p 0 ≡ count_of_length (remove t m) p) [
          | true ↦ λ same. set_here p _ same
              ∙ ap (λ n. n - 1) (here p same fits)
              ∙ sym (after_removal (λ n. n.prefix == p) t m ∙ ap (λ b. cond (cond b (is_some (get t m)) false)
              (number - 1) number) same ∙ ap (λ b. cond b (number - 1) number) stored)
          | false ↦ λ other. set_beside p _ other
              ∙ counted p fits
              ∙ sym (after_removal (λ n. n.prefix == p) t m
              ∙ ap (λ b. cond (cond b (is_some (get t m)) false) (number - 1) number) other)
        ] refl

  pub counted_again : (m : Network) (v : V) → IsSome (get t m) → CountsLengths (insert t m v) counts
  counted_again m v stored p fits = counted p fits ∙ sym (no_more (λ n. n.prefix == p) t m v stored)

  pub counted_still : (m : Network) → get t m ≡ None → CountsLengths (remove t m) counts
  counted_still m absent p fits =
      let number = count_of_length t p in
      counted p fits
      ∙ sym (after_removal (λ n. n.prefix == p) t m
      ∙ ap (λ b. cond (cond (m.prefix == p) b false) (number - 1) number) (ap is_some absent)
      ∙ elim (m.prefix == p) as (λ b. cond (cond b false false) (number - 1)
      number ≡ number) [ true ↦ refl | false ↦ refl ])
