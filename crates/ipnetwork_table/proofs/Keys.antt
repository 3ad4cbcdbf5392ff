-- What an insertion and a removal do to the keys.
use Rattle.ipnetwork_table.proofs.Words.{◌≡◌, ◌≢◌, ℕ, true, false, cond, Some, None, sym, refl, ap, subst, ◌∙◌, IsSome, FinMap, get, insert, remove, empty, get-empty, get-insert, get-remove, eq_by_cmp, false_from_ne_true, eq_by_cmp_equiv, Network, HostBitsAreZero, block_of, network_cmp, HasNoHostBits}
use Rattle.ipnetwork_table.proofs.Pairs.{total, one_network, tie_of}

pub nothing : false ≡ true → ⊥
nothing e = cc

-- a property of every key
pub none_fit : (V : Type 0) (Fits : Network → Type 0) (n : Network)
    → IsSome (get (empty {X = V} {R = network_cmp}) n) → Fits n
none_fit V Fits n stored = absurd (nothing (subst IsSome (get-empty network_cmp n) stored))

module _ {V : Type 0} (Fits : Network → Type 0) where
  pub fit_with : (t : FinMap network_cmp V) (n : Network) (v : V) → Fits n → ((m : Network) → IsSome (get t m) → Fits m)
      → (m : Network) → IsSome (get (insert t n v) m) → Fits m
  fit_with t n v own fit m =
      elim (eq_by_cmp network_cmp m n) as (λ b. eq_by_cmp network_cmp m n ≡ b
      → get (insert t n v) m ≡ cond b (Some v) (get t m) → IsSome (get (insert t n v) m) → Fits m) [
        | true ↦ λ at is stored. subst Fits (sym (one_network m n (tie_of _ at))) own
        | false ↦ λ apart is stored. fit m (subst IsSome is stored)
      ] refl (get-insert total t n v m)

  pub fit_without : (t : FinMap network_cmp V) (n : Network) → ((m : Network) → IsSome (get t m) → Fits m)
      → (m : Network) → IsSome (get (remove t n) m) → Fits m
  fit_without t n fit m =
      elim (eq_by_cmp network_cmp m n) as (λ b. get (remove t n) m ≡ cond b None (get t m)
      → IsSome (get (remove t n) m) → Fits m) [
        | true ↦ λ is stored. absurd (nothing (subst IsSome is stored))
        | false ↦ λ is stored. fit m (subst IsSome is stored)
      ] (get-remove total t n m)

pub none_at_first : (V : Type 0) (w : ℕ) → HasNoHostBits w (empty {X = V} {R = network_cmp})
none_at_first V w = none_fit V (HostBitsAreZero w)

module _ {V : Type 0} (w : ℕ) where
  pub one_more : (t : FinMap network_cmp V) (n : Network) (v : V) → HostBitsAreZero w (block_of w n) → HasNoHostBits w t
      → HasNoHostBits w (insert t (block_of w n) v)
  one_more t n v = fit_with (HostBitsAreZero w) t (block_of w n) v

  pub one_less : (t : FinMap network_cmp V) (n : Network) → HasNoHostBits w t → HasNoHostBits w (remove t n)
  one_less t n = fit_without (HostBitsAreZero w) t n

-- a network compares equal only to itself
tied : (n : Network) → eq_by_cmp network_cmp n n ≡ true
tied n = (eq_by_cmp_equiv total).refl n

untied : (m n : Network) → m ≢ n → eq_by_cmp network_cmp m n ≡ false
untied m n other = false_from_ne_true _ (λ tie. other (one_network m n (tie_of _ tie)))

module _ {V : Type 0} (t : FinMap network_cmp V) (n : Network) where
  pub set_one : (v : V) → (get (insert t n v) n ≡ Some v) × ((m : Network) → m ≢ n → get (insert t n v) m ≡ get t m)
  set_one v = (
    get-insert total t n v n ∙ ap (λ b. cond b (Some v) (get t n)) (tied n),
    λ m other. get-insert total t n v m ∙ ap (λ b. cond b (Some v) (get t m)) (untied m n other),
  )

  pub take_one : (get (remove t n) n ≡ None) × ((m : Network) → m ≢ n → get (remove t n) m ≡ get t m)
  take_one = (
    get-remove total t n n ∙ ap (λ b. cond b None (get t n)) (tied n),
    λ m other. get-remove total t n m ∙ ap (λ b. cond b None (get t m)) (untied m n other),
  )
