-- One answer holds for a whole range.
use Rattle.ipnetwork_index.proofs.Words.{◌≡◌, ◌↔◌, ℕ, ◌+◌, ◌-◌, ◌^◌, ◌<◌, ◌≤◌, ◌⊎◌, min, List, [], ◌∷◌, ◌++◌, length, get_or, arith, inl, inr, sym, refl, ap, subst, ◌∙◌, ⊎_elim, Option, None, Some, IsSome, is_some, length-append, Contains, FinMap, get, cases_lt, cases_eq, get_or_default, get_or_append_left, get_or_past, get_or_push, Network, IsNetwork, Member, low, high, block_at, network_cmp, size_pos, within_member, member_within, block_at_is, HasOnlyBlocks, IsLongest, NoneHolds, Finds, IsPartition, LiesAt, IsCutOut, CutsOut, IsFound, Tells, TellsAt, IsMadeOf, AreAnswersUpTo, AreNone, AreAnswers, IsAnswered}
use Rattle.ipnetwork_index.proofs.RangeCounts.{cut_by_blocks}

-- ---- the last number of a range is in the same networks as the other numbers of the range

-- the last number of a range is either less than x, or not less than that of the range of x
end_apart : (w : ℕ) (lasts : List ℕ) (x at e : ℕ) → IsPartition w lasts → LiesAt lasts x at
    → Contains lasts e → (e < x) ⊎ (get_or lasts at 0 ≤ e)
end_apart w lasts x at e p h c =
    let one = h.one in
    let is : get_or lasts c.0 0 ≡ e = get_or_default lasts c.0 0 e c.1 ∙ c.2 in
    ⊎_elim
    (λ (l : c.0 < at). let b : get_or lasts c.0 0 < x = h.after c.0 l in inl (omega arith))
    (λ (g : at ≤ c.0). ⊎_elim
    (λ (less : at < c.0).
    let a : get_or lasts at 0 < get_or lasts c.0 0 = p.ascending at c.0 less c.1 in
    inr (omega arith))
    (λ (same : c.0 ≤ at).
    let q : at ≡ c.0 = omega arith in
    inr (subst (λ (j : ℕ). get_or lasts j 0 ≤ e) (sym q) (omega arith)))
    (cases_lt at c.0))
    (cases_lt c.0 at)

-- the last number of each range has w bits
pub end_fits : (w : ℕ) (lasts : List ℕ) (at : ℕ) → IsPartition w lasts → at < length lasts
    → get_or lasts at 0 < 2 ^ w
end_fits w lasts at p l =
    ⊎_elim
    (λ (e : at + 1 ≡ length lasts).
    let q : get_or lasts at 0 + 1 ≡ 2 ^ w = p.last at e in
    omega arith)
    (λ (ne : at + 1 ≡ length lasts → _).
    let j : ℕ = length lasts - 1 in
    let q : get_or lasts j 0 + 1 ≡ 2 ^ w = p.last j (omega arith) in
    let a : get_or lasts at 0 < get_or lasts j 0 = p.ascending at j (omega arith) (omega arith) in
    omega arith)
    (cases_eq (at + 1) (length lasts))

same_members : (w : ℕ) (lasts : List ℕ) (x at : ℕ) (n : Network) → IsPartition w lasts
    → LiesAt lasts x at → IsCutOut w lasts n → IsNetwork w n
    → Member w n x ↔ Member w n (get_or lasts at 0)
same_members w lasts x at n p h c nn =
    let one = h.one in
    let to : x ≤ get_or lasts at 0 = h.within in
    let pos = size_pos w n.prefix in (
      (λ m.
          let i = within_member w n x m in
          let a : low w n ≤ x = i.0 in
          let b = i.1 in
          ⊎_elim
          (λ (l : high w n < x). absurd (omega arith))
          (λ (g : get_or lasts at 0 ≤ high w n). member_within w n nn (get_or lasts at 0)
          (omega arith) (omega arith))
          (end_apart w lasts x at (high w n) p h c.end)),
      (λ m.
          let i = within_member w n (get_or lasts at 0) m in
          let a : low w n ≤ get_or lasts at 0 = i.0 in
          let b = i.1 in
          ⊎_elim
          (λ (l : x < low w n).
          let before : ℕ = low w n - 1 in
          ⊎_elim
          (λ (k : before < x). absurd (omega arith))
          (λ (g : get_or lasts at 0 ≤ before). absurd (omega arith))
          (end_apart w lasts x at before p h (c.start before (omega arith))))
          (λ (from : low w n ≤ x). member_within w n nn x from (omega arith))
          (cases_lt x (low w n))),
    )

-- ---- what an answer says about a number

-- the answer follows from the prefix length of what is found
pub told : {V : Type 0} (w : ℕ) (t : FinMap network_cmp V) (x prefix : ℕ) (n : Network) (value : V)
    → w ≤ 128 → HasOnlyBlocks w t → IsLongest w t x n value → prefix ≡ n.prefix
    → Tells w t x prefix value
told w t x prefix n value few blocks h is =
    let b = blocks n (ap is_some h.stored) in
    let fits : n.prefix ≤ w = b.network.prefix_fits in
    record {
      none = λ e. absurd (omega arith);
      found = λ _. record {
        within = omega arith;
        longest = subst (λ (m : Network). IsLongest w t x m value)
            (block_at_is w n x prefix b.block h.holds (sym is)) h;
      };
    }

pub none_told : {V : Type 0} (w : ℕ) (t : FinMap network_cmp V) (x : ℕ) (value : V)
    → NoneHolds w t x → Tells w t x 255 value
none_told w t x value h = record { none = λ _. h; found = λ ne. absurd (ne refl) }

-- ---- an answer for a number also holds for the numbers in the same blocks

told_moves : {V : Type 0} (w : ℕ) (t : FinMap network_cmp V) (prefixes : List ℕ) (values : List V)
    (at x y : ℕ)
    → HasOnlyBlocks w t → ((n : Network) → IsSome (get t n) → Member w n x ↔ Member w n y)
    → TellsAt w t prefixes values at y → TellsAt w t prefixes values at x
told_moves w t prefixes values at x y blocks same h = record {
  none = λ e n s m. h.none e n s ((same n s).0 m);
  found = λ other ne.
      let p : ℕ = get_or prefixes at 255 in
      let value = get_or values at other in
      let f : IsFound w t y p value = h.found other ne in
      let b : Network = block_at w y p in
      let stored : IsSome (get t b) = ap is_some f.longest.stored in
      let holds : Member w b x = (same b stored).1 f.longest.holds in
      let moved : IsLongest w t x b value = record {
        stored = f.longest.stored;
        holds = holds;
        longest = λ m s k. f.longest.longest m s ((same m s).0 k);
      } in
      record {
        within = f.within;
        longest = subst (λ (n : Network). IsLongest w t x n value)
            (block_at_is w b x p (blocks b stored).block holds refl) moved;
      };
}

pub answered : {V : Type 0} (w : ℕ) (t : FinMap network_cmp V) (lasts prefixes : List ℕ)
    (values : List V)
    → HasOnlyBlocks w t → CutsOut w t lasts → AreAnswers w t lasts prefixes values
    → IsAnswered w t lasts prefixes values
answered w t lasts prefixes values blocks c a =
    ⊎_elim
    (λ (n : AreNone w t prefixes values). record {
      blocks = blocks;
      size = n.prefix_count ∙ sym n.value_count;
      all = λ x at h. record {
        none = λ _. n.all x;
        found = λ other ne.
            absurd (ne (get_or_past prefixes at 255 (omega (arith, n.prefix_count))));
      };
      cut = cut_by_blocks w t lasts c;
    })
    (λ (e : AreAnswersUpTo w t lasts prefixes values (length lasts)). record {
      blocks = blocks;
      size = e.prefix_count ∙ sym e.value_count;
      all = λ x at h. told_moves w t prefixes values at x (get_or lasts at 0) blocks
          (λ n s. same_members w lasts x at n c.partition h (c.blocks n s) (blocks n s).network)
          (e.all at h.one);
      cut = cut_by_blocks w t lasts c;
    })
    a

-- ---- the entry made from an answer is what a look-up finds

pub made_finds : {N V : Type 0} (pair : N → Network) (w : ℕ) (t : FinMap network_cmp V)
    (prefixes : List ℕ) (values : List V) (x at : ℕ) (answer : Option (N × V))
    → TellsAt w t prefixes values at x → IsMadeOf pair w prefixes values at x answer
    → Finds pair w t x answer
made_finds pair w t prefixes values x at None h m = h.none m
made_finds pair w t prefixes values x at (Some f) h m =
    let p : ℕ = get_or prefixes at 255 in
    let found : IsFound w t x p (get_or values at f.1) = h.found f.1 m.0 in
    let within : p ≤ w = found.within in
    let least : min p w ≡ p = omega arith in
    let is : block_at w x p ≡ pair f.0 = ap (block_at w x) (sym least) ∙ sym m.1 in
    subst (λ (n : Network). IsLongest w t x n f.1) is
    (subst (λ v. IsLongest w t x (block_at w x p) v) m.2 found.longest)

-- ---- one more answer

pub answers_more : {V : Type 0} (w : ℕ) (t : FinMap network_cmp V) (lasts prefixes : List ℕ)
    (values : List V) (count prefix : ℕ) (value : V)
    → AreAnswersUpTo w t lasts prefixes values count
    → Tells w t (get_or lasts count 0) prefix value
    → AreAnswersUpTo w t lasts (prefixes ++ prefix ∷ []) (values ++ value ∷ []) (count + 1)
answers_more w t lasts prefixes values count prefix value a h =
    let prefix_count = a.prefix_count in
    let value_count = a.value_count in
    record {
      prefix_count = omega (arith, length-append prefixes (prefix ∷ []));
      value_count = omega (arith, length-append values (value ∷ []));
      all = λ k l. ⊎_elim
          (λ (early : k < count).
          let p = get_or_append_left prefixes (prefix ∷ []) 255 k (omega arith) in
          let told : TellsAt w t prefixes values k (get_or lasts k 0) = a.all k early in
          record {
            none = λ e. told.none (sym p ∙ e);
            found = λ other. rw (p, get_or_append_left values (value ∷ []) other k (omega arith))
                (told.found other);
          })
          (λ (here : count ≤ k).
          let q : count ≡ k = omega arith in
          let p = get_or_push prefixes prefix 255 k (omega arith) in
          let told : Tells w t (get_or lasts k 0) prefix value
          = subst (λ (j : ℕ). Tells w t (get_or lasts j 0) prefix value) q h in
          record {
            none = λ e. told.none (sym p ∙ e);
            found = λ other. rw (p, get_or_push values value other k (omega arith)) told.found;
          })
          (cases_lt k count);
    }
