-- A value that is put back.
use Rattle.cidr_join.proofs.Words.{◌≡◌, Bool, true, false, None, Some, Result, Ok, Err, OnOk, OnErr, refl, sym, ap, ◌∙◌, cond, FinMap, get, insert, get-insert, same_map, eq_by_cmp, Network, network_cmp, total, one_network, tie_of}

module _ {V : Type 0} (before : FinMap network_cmp V) (n : Network) (value old : V)
    (had : Some old ≡ get before n) where
  -- where a value was, there is one after another took its place
  not_gone : get (insert before n value) n ≡ None → ⊥
  not_gone gone = by (eq_by_cmp network_cmp n n) (sym (get-insert total before n value n) ∙ gone) where
    by : (b : Bool) → cond b (Some value) (get before n) ≡ None → ⊥
    by true e = absurd (cc)
    by false e = none_some (sym e ∙ sym had) where
      none_some : None ≡ Some old → ⊥
      none_some p = absurd (cc)

  back : insert (insert before n value) n old ≡ before
  back = same_map total one_network _ _ (λ m.
      get-insert total (insert before n value) n old m
      ∙ ap (cond (eq_by_cmp network_cmp m n) (Some old)) (get-insert total before n value m)
      ∙ elim (eq_by_cmp network_cmp m n) as (λ b. eq_by_cmp network_cmp m n ≡ b
      → cond b (Some old) (cond b (Some value) (get before m)) ≡ get before m) [
        | true ↦ λ at. had ∙ ap (get before) (sym (one_network m n (tie_of _ at)))
        | false ↦ λ apart. refl
      ] refl)

  -- the value that a block had is put back over another one
  pub put_back : {T E : Type 0} (result : Result T E) (between after : FinMap network_cmp V)
      → between ≡ insert before n value → OnOk result (after ≡ insert between n old)
      → OnErr result (get between n ≡ None) → after ≡ before
  put_back (Ok done) between after put set absent = set ∙ ap (λ (m : FinMap network_cmp V). insert m n old) put ∙ back
  put_back (Err fault) between after put set gone =
      absurd (not_gone (ap (λ (m : FinMap network_cmp V). get m n) (sym put) ∙ gone))
