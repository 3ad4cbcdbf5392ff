-- A look-up has exactly one result.
use Rattle.ipnetwork_table.proofs.Words.{◌≡◌, ℕ, zero, suc, ◌-◌, ◌^◌, ◌<◌, ◌≤◌, Option, Some, None, sym, refl, ap, subst, ◌∙◌, arith, ⊎_elim, is_some, IsSome, FinMap, get, cases_lt, Network, network_cmp, block_at, same_block, BlocksOfAnyWidthThatMeet, HasOnlyBlocks, HasNoHostBits, IsLongest, found_by_pair, Finds, Answers, NoneAbove}
use Rattle.ipnetwork_table.proofs.Listing.{same_value}
use Rattle.ipnetwork_table.proofs.Longest.{none_above_width, none_above_next, none_at_all, longest_here}

pub blocks_meet : BlocksOfAnyWidthThatMeet
blocks_meet w m n x block_m block_n same in_m in_n = same_block w m n block_m block_n same x in_m in_n

module _ {V : Type 0} (w : ℕ) (t : FinMap network_cmp V) (x : ℕ) (blocks : HasOnlyBlocks w t) where
  abbrev Found : Type 0
  Found = (answer : Option (Network × V)) × Answers w t x answer

  -- the search from a prefix length down
  search_from : x < 2 ^ w → (p : ℕ) → NoneAbove w t x p → Found
  search_from fits zero above =
      elim (get t (block_at w x 0)) as (λ o. get t (block_at w x 0) ≡ o → Found) [
        | Some v ↦ λ found. (Some (block_at w x 0, v), longest_here w t x 0 _ v above fits refl found)
        | None ↦ λ none. (None, none_at_all w t x 0 blocks above none refl)
      ] refl
  search_from fits (suc p) above =
      elim (get t (block_at w x (suc p))) as (λ o. get t (block_at w x (suc p)) ≡ o → Found) [
        | Some v ↦ λ found. (Some (block_at w x (suc p), v), longest_here w t x (suc p) _ v above fits refl found)
        | None ↦ λ none.
            let next : suc p - 1 ≡ p = omega arith in
            search_from fits p (subst (NoneAbove w t x) next
            (none_above_next w t x (suc p) blocks above none (omega arith)))
      ] refl

  pub answer_exists : Found
  answer_exists = ⊎_elim
      (λ (fits : x < 2 ^ w). search_from fits w (none_above_width w t x blocks))
      (λ (beyond : 2 ^ w ≤ x). (None, λ n stored holds. omega (arith, beyond, holds.0)))
      (cases_lt x (2 ^ w))

module _ {V : Type 0} (w : ℕ) (t : FinMap network_cmp V) (x : ℕ) (blocks : HasNoHostBits w t) where
  is_stored : (n : Network) (v : V) → IsLongest w t x n v → IsSome (get t n)
  is_stored n v longest = ap is_some longest.stored

  pub answer_is_one : (a b : Option (Network × V)) → Answers w t x a → Answers w t x b → a ≡ b
  answer_is_one None None here there = refl
  answer_is_one None (Some e) here there = absurd (here e.0 (is_stored e.0 e.1 there) there.holds)
  answer_is_one (Some d) None here there = absurd (there d.0 (is_stored d.0 d.1 here) here.holds)
  answer_is_one (Some d) (Some e) here there =
      let shorter : d.0.prefix ≤ e.0.prefix = there.longest d.0 (is_stored d.0 d.1 here) here.holds in
      let longer : e.0.prefix ≤ d.0.prefix = here.longest e.0 (is_stored e.0 e.1 there) there.holds in
      let same : d.0 ≡ e.0 =
      blocks_meet w d.0 e.0 x (blocks d.0 (is_stored d.0 d.1 here)) (blocks e.0 (is_stored e.0 e.1 there))
      (omega (arith, shorter, longer)) here.holds there.holds in
      let value : d.1 ≡ e.1 = same_value d.1 e.1 (sym here.stored ∙ ap (get t) same ∙ there.stored) in
      λ i. Some (same i, value i)

-- the result of a look-up, with its block converted to a network
pub answers_by_pair : {N V : Type 0} (pair : N → Network) (w : ℕ) (t : FinMap network_cmp V) (x : ℕ)
    (found : Option (N × V))
    → Finds pair w t x found → Answers w t x (found_by_pair pair found)
answers_by_pair pair w t x None h = h
answers_by_pair pair w t x (Some f) h = h
