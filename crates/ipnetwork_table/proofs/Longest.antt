-- Tables of blocks, and the search for the longest block that holds an address.
use Rattle.ipnetwork_table.proofs.Words.{◌≡◌, ℕ, ◌-◌, ◌^◌, ◌<◌, ◌≤◌, Some, None, sym, ap, subst, ◌∙◌, arith, ⊎_elim, IsSome, FinMap, get, insert, remove, empty, cases_lt, Network, Member, network_cmp, block_at, IsCidrBlock, block_at_holds, block_at_is, HasOnlyBlocks, IsLongest, NoneHolds, NoneAbove}
use Rattle.ipnetwork_table.proofs.Keys.{nothing, none_fit, fit_with, fit_without}

abbrev Table : Type 0 → Type 0
Table V = FinMap network_cmp V

-- ---- the tables that calls return

pub new_table : (w : ℕ) (V : Type 0) → HasOnlyBlocks w (empty {X = V} {R = network_cmp})
new_table w V = none_fit V (IsCidrBlock w)

module _ {V : Type 0} (w : ℕ) where
  pub with_block : (t : Table V) (n : Network) (v : V) → IsCidrBlock w n → HasOnlyBlocks w t
      → HasOnlyBlocks w (insert t n v)
  with_block = fit_with (IsCidrBlock w)

  pub without : (t : Table V) (n : Network) → HasOnlyBlocks w t → HasOnlyBlocks w (remove t n)
  without = fit_without (IsCidrBlock w)

-- ---- the search

module _ {V : Type 0} (w : ℕ) where
  pub none_above_width : (t : Table V) (x : ℕ) → HasOnlyBlocks w t → NoneAbove w t x w
  none_above_width t x blocks n stored above holds = let fits = (blocks n stored).network in
      omega (arith, fits.prefix_fits, above)

  -- after a look-up at p has found nothing
  none_from : (t : Table V) (x p : ℕ) → HasOnlyBlocks w t → NoneAbove w t x p → get t (block_at w x p) ≡ None
      → (n : Network) → IsSome (get t n) → p ≤ n.prefix → ¬ (Member w n x)
  none_from t x p blocks above none n stored from holds = ⊎_elim
      (λ (more : p < n.prefix). above n stored more holds)
      (λ (same : n.prefix ≤ p). nothing
      (subst IsSome (ap (get t) (block_at_is w n x p (blocks n stored).block holds (omega arith)) ∙ none) stored))
      (cases_lt p n.prefix)

  pub none_above_next : (t : Table V) (x p : ℕ) → HasOnlyBlocks w t → NoneAbove w t x p → get t (block_at w x p) ≡ None
      → 0 < p → NoneAbove w t x (p - 1)
  none_above_next t x p blocks above none more n stored beyond =
      none_from t x p blocks above none n stored (omega arith)

  pub none_at_all : (t : Table V) (x p : ℕ) → HasOnlyBlocks w t → NoneAbove w t x p → get t (block_at w x p) ≡ None
      → p ≡ 0 → NoneHolds w t x
  none_at_all t x p blocks above none last n stored = none_from t x p blocks above none n stored (omega arith)

  pub longest_here : (t : Table V) (x p : ℕ) (n : Network) (v : V) → NoneAbove w t x p → x < 2 ^ w → n ≡ block_at w x p
      → get t n ≡ Some v → IsLongest w t x n v
  longest_here t x p n v above fits is found = record {
    stored = found;
    holds = subst (λ (m : Network). Member w m x) (sym is) (block_at_holds w x p fits);
    longest = λ m stored holds. ⊎_elim
        (λ (more : p < m.prefix). absurd (above m stored more holds))
        (λ (same : m.prefix ≤ p). let at : n.prefix ≡ p = ap (λ (m : Network). m.prefix) is in omega arith)
        (cases_lt p m.prefix);
  }
