-- The search for a number among ascending numbers.
use Rattle.ipnetwork_index.proofs.Words.{◌≡◌, ◌↔◌, Bool, IsTrue, false, true≢false, ◌∙◌, ℕ, zero, suc, [], ◌∷◌, map, ap, ◌+◌, ◌-◌, ◌*◌, ◌^◌, ◌<◌, ◌≤◌, List, length, get_or, arith, sym, subst, ⊎_elim, cases_lt, IsPart, Ascends, IsSearchable, IsWithin, IsPlaceOf, IsOneIfLess, IsStep, HasComeTo, IsBetween}

-- what is read from a list of plain numbers
pub read_number : {X : Type 0} (f : X → ℕ) (xs : List X) (k : ℕ) (x : X) → k < length xs
    → x ≡ get_or xs k x → get_or (map f xs) k 0 ≡ f x
read_number f [] k x l e = absurd (omega arith)
read_number f (y ∷ ys) zero x l e = ap f (sym e)
read_number f (y ∷ ys) (suc k) x l e = read_number f ys k x (omega arith) e

-- what a comparison says
pub at_most : (b : Bool) (a x : ℕ) → (IsTrue b ↔ (a < x)) → b ≡ false → x ≤ a
at_most b a x h e = ⊎_elim
    (λ (l : a < x). absurd (true≢false (sym (h.1 l) ∙ e)))
    (λ (g : x ≤ a). g)
    (cases_lt a x)

-- numbers that are compared through others
pub not_before : (u v a b : ℕ) → v ≤ u → u ≡ a → v ≡ b → b ≤ a
not_before u v a b l p r = omega arith

pub is_before : (u v a b c : ℕ) → u < v → u ≡ a → v ≡ b → b ≤ c → a < c
is_before u v a b c l p r m = omega arith

-- ---- where a search begins and how it continues

-- if the keys before `at` are less than x, three more keys follow the one at `at`
pub come : (keys : List ℕ) (x at : ℕ) → Ascends keys → IsWithin keys x
    → ((k : ℕ) → k < at → get_or keys k 0 < x) → HasComeTo keys x at
come keys x at up i h =
    let some = i.some in
    let most = i.most in
    record {
      ascending = up;
      after = h;
      room = ⊎_elim
          (λ (over : length keys < at + 4).
          let l : get_or keys (length keys - 4) 0 < x = h (length keys - 4) (omega arith) in
          absurd (omega arith))
          (λ (fits : at + 4 ≤ length keys). fits)
          (cases_lt (length keys) (at + 4));
      most = most;
    }

come_within : (keys : List ℕ) (x at : ℕ) → HasComeTo keys x at → IsWithin keys x
come_within keys x at h =
    let room = h.room in
    record { some = omega arith; most = h.most }

-- the search begins where the part of the number says
pub begins : (keys starts : List ℕ) (base shift x part : ℕ)
    → IsSearchable keys starts base shift → IsWithin keys x
    → IsPart x base shift (length starts - 1) part → HasComeTo keys x (get_or starts part 0)
begins keys starts base shift x part i within p =
    let some = i.starts_are.some in
    let own = p.within in
    let s = i.starts_are.all part (omega arith) in
    come keys x (get_or starts part 0) i.ascending within (λ k l.
    let f = s.less k l in
    let less : get_or keys k 0 < base + part * 2 ^ shift = f.1 in
    let from : base + part * 2 ^ shift ≤ x = p.from f.0 in omega arith)

-- the search continues after four keys
goes_on : (keys : List ℕ) (x at below : ℕ) → HasComeTo keys x at → IsStep keys x at 0 below
    → HasComeTo keys x (at + below)
goes_on keys x at below h s =
    come keys x (at + below) h.ascending (come_within keys x at h) (λ k l.
    ⊎_elim (λ (b : k < at). h.after k b) (λ (f : at ≤ k). s.less k f (omega arith)) (cases_lt k at))

pub goes_past : (keys : List ℕ) (x at below : ℕ) → HasComeTo keys x at → IsStep keys x at 0 below
    → 4 ≤ below → HasComeTo keys x (at + 4)
goes_past keys x at below h s all =
    let few = s.few in
    let e : at + below ≡ at + 4 = omega arith in
    subst (λ (j : ℕ). HasComeTo keys x j) e (goes_on keys x at below h s)

-- the search may end at the first key that is not less
pub found : (keys : List ℕ) (x at below : ℕ) → HasComeTo keys x at → IsStep keys x at 0 below
    → below < 4 → IsPlaceOf keys x (at + below)
found keys x at below h s few =
    let n = goes_on keys x at below h s in
    let e : at + below * (0 + 1) + 0 ≡ at + below = omega arith in
    record {
      after = n.after;
      within = subst (λ (j : ℕ). x ≤ get_or keys j 0) e (s.not few);
      room = n.room;
    }

-- ---- in growing steps

pub reaches_past : (keys : List ℕ) (x at end : ℕ) → HasComeTo keys x at
    → end < length keys → get_or keys end 0 < x → HasComeTo keys x (end + 1)
reaches_past keys x at end h own less =
    come keys x (end + 1) h.ascending (come_within keys x at h) (λ k l.
    let o : get_or keys k 0 ≤ get_or keys end 0 = h.ascending.order k end (omega arith) own in omega arith)

-- ---- in shrinking steps

-- each round leaves the places of one step, or those after four steps
pub narrows : (keys : List ℕ) (x at left step below : ℕ) → Ascends keys
    → IsBetween keys x at (at + left) → 5 * step + 4 ≤ left → IsStep keys x at step below
    → IsBetween keys x (at + below * (step + 1)) (at + below * (step + 1) + (left - 4 * (step + 1)))
narrows keys x at left step below up h fifth s =
    let next : ℕ = at + below * (step + 1) in
    let rest : ℕ = left - 4 * (step + 1) in
    let within = h.within in
    let room = h.room in
    let few = s.few in
    let most = s.most in
    record {
      after = λ k l.
          ⊎_elim (λ (b : k < at). h.after k b) (λ (f : at ≤ k). s.less k f l) (cases_lt k at);
      ordered = omega arith;
      within = ⊎_elim
          (λ (part : below < 4).
          let o : get_or keys (next + step) 0 ≤ get_or keys (next + rest) 0
          = up.order (next + step) (next + rest) (omega arith) (omega arith) in
          let n : x ≤ get_or keys (next + step) 0 = s.not part in
          omega arith)
          (λ (all : 4 ≤ below).
          let four : below ≡ 4 = omega arith in
          let to : next ≡ at + 4 * (step + 1) = ap (λ (n : ℕ). at + n * (step + 1)) four in
          let e : next + rest ≡ at + left = omega arith in
          subst (λ (j : ℕ). x ≤ get_or keys j 0) (sym e) within)
          (cases_lt below 4);
      room = omega arith;
    }

-- at the end there are at most five places
pub narrowed_to : (keys : List ℕ) (x at left below : ℕ) → IsBetween keys x at (at + left)
    → left ≤ 4 → IsStep keys x at 0 below → IsPlaceOf keys x (at + below)
narrowed_to keys x at left below h last s =
    let room = h.room in
    let few = s.few in
    let within = h.within in
    let after : (k : ℕ) → k < at + below → get_or keys k 0 < x = λ k l.
    ⊎_elim (λ (b : k < at). h.after k b) (λ (f : at ≤ k). s.less k f (omega arith)) (cases_lt k at) in
    let most : below ≤ left = ⊎_elim
    (λ (over : left < below).
    let l : get_or keys (at + left) 0 < x = after (at + left) (omega arith) in absurd (omega arith))
    (λ (fits : below ≤ left). fits)
    (cases_lt left below) in
    record {
      after = after;
      within = ⊎_elim
          (λ (part : below < 4).
          let e : at + below * (0 + 1) + 0 ≡ at + below = omega arith in
          subst (λ (j : ℕ). x ≤ get_or keys j 0) e (s.not part))
          (λ (all : 4 ≤ below).
          let e : at + left ≡ at + below = omega arith in
          subst (λ (j : ℕ). x ≤ get_or keys j 0) e within)
          (cases_lt below 4);
      room = omega arith;
    }

-- ---- the sum of four comparisons

none_less : (keys : List ℕ) (x at step : ℕ) → x ≤ get_or keys (at + step) 0
    → IsStep keys x at step 0
none_less keys x at step after =
    let e : at + step ≡ at + 0 * (step + 1) + step = omega arith in
    record {
      few = omega arith;
      most = omega arith;
      less = λ k from to. absurd (omega arith);
      not = λ _. subst (λ (j : ℕ). x ≤ get_or keys j 0) e after;
    }

some_less : (keys : List ℕ) (x at step s last next : ℕ) → Ascends keys → last < length keys
    → s ≤ 4 → s * (step + 1) ≤ 4 * step + 4 → last + 1 ≡ at + s * (step + 1)
    → get_or keys last 0 < x
    → (s < 4 → next ≡ at + s * (step + 1) + step) → (s < 4 → x ≤ get_or keys next 0)
    → IsStep keys x at step s
some_less keys x at step s last next up own few most is before there after = record {
  few = few;
  most = most;
  less = λ k from to.
      let o : get_or keys k 0 ≤ get_or keys last 0 = up.order k last (omega arith) own in
      omega arith;
  not = λ f. subst (λ (j : ℕ). x ≤ get_or keys j 0) (there f) (after f);
}

step_is : (keys : List ℕ) (x at step s j : ℕ) → s ≡ j → IsStep keys x at step j
    → IsStep keys x at step s
step_is keys x at step s j e h = subst (λ (n : ℕ). IsStep keys x at step n) (sym e) h

pub four_step : (keys : List ℕ) (x at step a b c d : ℕ) → Ascends keys
    → at + (4 * step + 3) < length keys
    → IsOneIfLess (get_or keys (at + step) 0) x a
    → IsOneIfLess (get_or keys (at + (2 * step + 1)) 0) x b
    → IsOneIfLess (get_or keys (at + (3 * step + 2)) 0) x c
    → IsOneIfLess (get_or keys (at + (4 * step + 3)) 0) x d
    → IsStep keys x at step (a + b + c + d)
four_step keys x at step a b c d up room ha hb hc hd =
    let p : ℕ = at + step in
    let q : ℕ = at + (2 * step + 1) in
    let r : ℕ = at + (3 * step + 2) in
    let s : ℕ = at + (4 * step + 3) in
    let o1 : get_or keys p 0 ≤ get_or keys q 0 = up.order p q (omega arith) (omega arith) in
    let o2 : get_or keys q 0 ≤ get_or keys r 0 = up.order q r (omega arith) (omega arith) in
    let o3 : get_or keys r 0 ≤ get_or keys s 0 = up.order r s (omega arith) (omega arith) in
    ⊎_elim
    (λ (l0 : get_or keys p 0 < x). ⊎_elim
    (λ (l1 : get_or keys q 0 < x). ⊎_elim
    (λ (l2 : get_or keys r 0 < x). ⊎_elim
    (λ (l3 : get_or keys s 0 < x).
    step_is keys x at step (a + b + c + d) 4
    (omega (arith, ha.less l0, hb.less l1, hc.less l2, hd.less l3))
    (some_less keys x at step 4 s 0 up (omega arith) (omega arith) (omega arith) (omega arith) l3
    (λ h. absurd (omega arith)) (λ h. absurd (omega arith))))
    (λ (g3 : x ≤ get_or keys s 0).
    step_is keys x at step (a + b + c + d) 3
    (omega (arith, ha.less l0, hb.less l1, hc.less l2, hd.not g3))
    (some_less keys x at step 3 r s up (omega arith) (omega arith) (omega arith) (omega arith) l2
    (λ _. omega arith) (λ _. g3)))
    (cases_lt (get_or keys s 0) x))
    (λ (g2 : x ≤ get_or keys r 0).
    step_is keys x at step (a + b + c + d) 2
    (omega (arith, ha.less l0, hb.less l1, hc.not g2, hd.not (omega arith)))
    (some_less keys x at step 2 q r up (omega arith) (omega arith) (omega arith) (omega arith) l1
    (λ _. omega arith) (λ _. g2)))
    (cases_lt (get_or keys r 0) x))
    (λ (g1 : x ≤ get_or keys q 0).
    step_is keys x at step (a + b + c + d) 1
    (omega (arith, ha.less l0, hb.not g1, hc.not (omega arith), hd.not (omega arith)))
    (some_less keys x at step 1 p q up (omega arith) (omega arith) (omega arith) (omega arith) l0
    (λ _. omega arith) (λ _. g1)))
    (cases_lt (get_or keys q 0) x))
    (λ (g0 : x ≤ get_or keys p 0).
    step_is keys x at step (a + b + c + d) 0
    (omega (arith, ha.not g0, hb.not (omega arith), hc.not (omega arith), hd.not (omega arith)))
    (none_less keys x at step g0))
    (cases_lt (get_or keys p 0) x)
