-- The free ranges of a block, cut by cut.
use Rattle.ipnetwork_sets.proofs.Words.{◌≡◌, ℕ, ◌+◌, ◌<◌, ◌≤◌, inl, inr, refl, sym, subst, arith, ⊎_elim, List, ◌∷◌, cases_lt, Network, IsCidrBlock, Member, high, size_pos, within_member, member_within, InUnion, AggregateIsApart, own_address, contains_head, IsAddressSet, Skips, IsFreeRange}
use Rattle.ipnetwork_sets.proofs.Lists.{set_block}
use Rattle.ipnetwork_sets.proofs.Steps.{tail_is_set, union_cons, union_from}

pub not_before : (a b : ℕ) → (a < b → ⊥) → b ≤ a
not_before a b not = ⊎_elim (λ (l : a < b). absurd (not l)) (λ (le : b ≤ a). le) (cases_lt a b)

-- an address between two addresses of a block is one of the block
pub between : (w : ℕ) (whole : Network) (first x last : ℕ) → IsCidrBlock w whole → Member w whole first
    → first ≤ x → x ≤ last
    → last ≤ high w whole → Member w whole x
between w whole first x last h m l k ends =
    let i = within_member w whole first m in
    let pos = size_pos w whole.prefix in
    member_within w whole h.network x (omega (arith, i.0, l)) (omega (arith, k, ends, pos))

-- no member of a network comes after its last address
pub at_most_high : (w : ℕ) (whole : Network) (x : ℕ) → Member w whole x → x ≤ high w whole
at_most_high w whole x m =
    let i = within_member w whole x m in
    let pos = size_pos w whole.prefix in
    omega (arith, i.1, pos)

-- the first cut block left is `b`
module _ (w : ℕ) (whole b : Network) (from : ℕ) (cut : List Network) (at : ℕ) (left after : List Network)
    (apart : AggregateIsApart) (opened : left ≡ b ∷ after) (set : IsAddressSet w left) (inside : Member w whole at)
    (skips : Skips w whole from cut at left) where
  opened_set : IsAddressSet w (b ∷ after)
  opened_set = subst (IsAddressSet w) opened set

  block : IsCidrBlock w b
  block = set_block w (b ∷ after) b opened_set (contains_head b after)

  of_left : (x : ℕ) → InUnion w (b ∷ after) x → InUnion w left x
  of_left x = subst (λ (t : List Network). InUnion w t x) (sym opened)

  to_opened : (x : ℕ) → InUnion w left x → InUnion w (b ∷ after) x
  to_opened x = subst (λ (t : List Network). InUnion w t x) opened

  pub others_are_set : IsAddressSet w after
  others_are_set = tail_is_set w b after apart opened_set

  -- from an address after the block on, the others cut the same
  same_after : (next : ℕ) → at ≤ next → high w b < next → (x : ℕ) → next ≤ x → InUnion w cut x → InUnion w after x
  same_after next le l x k c = ⊎_elim
      (λ (m : Member w b x). let h = at_most_high w b x m in absurd (omega (arith, h, l, k)))
      (λ (d : InUnion w after x). d)
      ((union_cons w b after x).0 (to_opened x ((skips.same x (omega (arith, le, k))).0 c)))

  -- the block ends before the next address
  pub skips_before : high w b < at → Skips w whole from cut at after
  skips_before l = record {
    forward = skips.forward;
    passed = skips.passed;
    same = λ x k. (
      same_after at (omega arith) l x k,
      (λ d. (skips.same x k).1 (of_left x ((union_cons w b after x).1 (inr d)))),
    );
  }

  -- the block has the next address, and all up to `next`
  cut_between : b.address ≤ at → (next : ℕ) → next ≤ high w b + 1 → (x : ℕ) → Member w whole x → from ≤ x → x < next
      → InUnion w cut x
  cut_between begins next le x m l k = ⊎_elim
      (λ (before : x < at). skips.passed x m l before)
      (λ (behind : at ≤ x).
      let own = own_address w b block.network in
      let held : Member w b x = between w b b.address x (high w b) block own (omega (arith, begins, behind))
      (omega (arith, k, le)) (omega arith) in
      (skips.same x behind).1 (of_left x ((union_cons w b after x).1 (inl held))))
      (cases_lt x at)

  -- the block ends before the whole, and has the next address
  pub skips_block : b.address ≤ at → at ≤ high w b → (next : ℕ) → next ≡ high w b + 1
      → Skips w whole from cut next after
  skips_block begins ends next is =
      let forward = skips.forward in
      record {
        forward = omega (arith, forward, ends, is);
        passed = cut_between begins next (omega (arith, is));
        same = λ x k. (
          same_after next (omega (arith, ends, is)) (omega (arith, is)) x k,
          (λ d. (skips.same x (omega (arith, ends, is, k))).1 (of_left x ((union_cons w b after x).1 (inr d)))),
        );
      }

  -- the block has all addresses that are left of the whole
  pub skips_whole : b.address ≤ at → high w whole ≤ high w b → Skips w whole from cut (high w whole + 1) left
  skips_whole begins ends =
      let forward = skips.forward in
      let at_end = at_most_high w whole at inside in
      record {
        forward = omega (arith, forward, at_end);
        passed = cut_between begins (high w whole + 1) (omega (arith, ends));
        same = λ x k. skips.same x (omega (arith, at_end, k));
      }

  -- no address before the block is cut
  free_before : (x : ℕ) → x < b.address → ¬ (InUnion w left x)
  free_before x l c = let from_b = union_from w b after apart opened_set x (to_opened x c) in omega (arith, l, from_b)

  -- the block begins after the whole
  pub free_whole : high w whole < b.address → IsFreeRange w whole at (high w whole) left
  free_whole l = record {
    begins = inside;
    some = at_most_high w whole at inside;
    ends = omega arith;
    free = λ x a k. free_before x (omega (arith, k, l));
    longest = inl refl;
  }

  -- the block begins after the next address, and in the whole
  pub free_up_to : at < b.address → b.address ≤ high w whole → (last : ℕ) → last + 1 ≡ b.address
      → IsFreeRange w whole at last left
  free_up_to l k last is = record {
    begins = inside;
    some = omega (arith, l, is);
    ends = omega (arith, k, is);
    free = λ x a b_. free_before x (omega (arith, b_, is));
    longest = inr (of_left (last + 1) ((union_cons w b after (last + 1)).1
        (inl (subst (λ (x : ℕ). Member w b x) (sym is) (own_address w b block.network)))));
  }
