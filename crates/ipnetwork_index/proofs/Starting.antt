-- The fields of a new partition.
use Rattle.ipnetwork_index.proofs.Words.{◌≡◌, ◌≢◌, ℕ, zero, suc, ◌+◌, ◌-◌, ◌*◌, ◌^◌, ◌<◌, ◌≤◌, List, [], ◌∷◌, ◌++◌, length, get_or, take, slice_set, arith, sym, refl, ◌∙◌, subst, ⊎_elim, append_assoc, length-append, cases_lt, cases_eq, get_or_append_left, get_or-append-add, get_or-set_same, get_or-set_other, get_or-take, length-take, mul-le-mul_right, take-append_seam, IsPart, IsStart, AreStarts, IsPlaceOf, IsWithin, IsPartition, LiesAt, unpadded, IsPadded, Pads, AreStartsSoFar}

-- ---- where the search for a part begins

-- one more number is less than each number of the part
pub start_more : (lasts : List ℕ) (base shift part at own : ℕ) → IsStart lasts base shift part at
    → at < length lasts
    → IsPart (get_or lasts at 0) base shift 18446744073709551615 own → own < part
    → part ≤ 18446744073709551615
    → IsStart lasts base shift part (at + 1)
start_more lasts base shift part at own s l p less small =
    let to : get_or lasts at 0 < base + (own + 1) * 2 ^ shift = p.to (omega arith) in
    let grows : (own + 1) * 2 ^ shift ≤ part * 2 ^ shift
    = mul-le-mul_right (2 ^ shift) (omega arith) in
    record {
      within = omega arith;
      less = λ k m. ⊎_elim
          (λ (before : k < at). s.less k before)
          (λ (here : at ≤ k).
          let q : at ≡ k = omega arith in (
            omega arith,
            subst (λ (j : ℕ). get_or lasts j 0 < base + part * 2 ^ shift) q
                (omega arith),
          ))
          (cases_lt k at);
    }

start_fewer : (lasts : List ℕ) (base shift part at fewer : ℕ) → fewer ≤ at
    → IsStart lasts base shift part at
    → IsStart lasts base shift part fewer
start_fewer lasts base shift part at fewer l s =
    let w = s.within in record { within = omega arith; less = λ k m. s.less k (omega arith) }

start_next : (lasts : List ℕ) (base shift part at : ℕ) → IsStart lasts base shift part at
    → IsStart lasts base shift (part + 1) at
start_next lasts base shift part at s =
    let grows : part * 2 ^ shift ≤ (part + 1) * 2 ^ shift
    = mul-le-mul_right (2 ^ shift) (omega arith) in
    record {
      within = s.within;
      less = λ k m.
          let f = s.less k m in
          let l : get_or lasts k 0 < base + part * 2 ^ shift = f.1 in (omega arith, omega arith);
    }

-- no number comes before the first part
pub starts_none : (lasts starts : List ℕ) (base shift : ℕ)
    → AreStartsSoFar lasts starts base shift 0 0
starts_none lasts starts base shift = record {
  all = λ h l. absurd (omega arith);
  next = record { within = omega arith; less = λ k l. absurd (omega arith) };
}

-- the start of one more part
pub starts_more : (lasts starts : List ℕ) (base shift part before at start : ℕ)
    → AreStartsSoFar lasts starts base shift part before → part < length starts
    → IsStart lasts base shift part at → start ≤ at
    → AreStartsSoFar lasts (slice_set starts part start) base shift (part + 1) at
starts_more lasts starts base shift part before at start t own s l = record {
  all = λ h m. ⊎_elim
      (λ (early : h < part).
      let other : h ≢ part = omega arith in
      subst (λ (j : ℕ). IsStart lasts base shift h j)
      (sym (get_or-set_other starts part h start 0 other)) (t.all h early))
      (λ (here : part ≤ h).
      let e : part ≡ h = omega arith in
      subst (λ (i : ℕ). IsStart lasts base shift i (get_or (slice_set starts part start) i 0)) e
      (subst (λ (j : ℕ). IsStart lasts base shift part j)
      (sym (get_or-set_same starts part start 0 own))
      (start_fewer lasts base shift part at start l s)))
      (cases_lt h part);
  next = start_next lasts base shift part at s;
}

pub all_started : (lasts starts : List ℕ) (base shift part at : ℕ) → 1 ≤ length starts
    → length starts ≤ part → AreStartsSoFar lasts starts base shift part at
    → AreStarts lasts starts base shift
all_started lasts starts base shift part at some all t = record {
  some = some;
  all = λ h l. t.all h (omega arith);
}

-- ---- three more of the greatest number

-- no number is greater than the last
at_most_top : (w : ℕ) (lasts : List ℕ) (top k : ℕ) → IsPartition w lasts → top + 1 ≡ 2 ^ w
    → k < length lasts → get_or lasts k 0 ≤ top
at_most_top w lasts top k h t l =
    ⊎_elim
    (λ (e : k + 1 ≡ length lasts). let q : get_or lasts k 0 + 1 ≡ 2 ^ w = h.last k e in omega arith)
    (λ (ne : k + 1 ≡ length lasts → _).
    let some = h.some in
    let j : ℕ = length lasts - 1 in
    let q : get_or lasts j 0 + 1 ≡ 2 ^ w = h.last j (omega arith) in
    let a : get_or lasts k 0 < get_or lasts j 0 = h.ascending k j (omega arith) (omega arith) in
    omega arith)
    (cases_eq (k + 1) (length lasts))

read_own : (lasts : List ℕ) (top k : ℕ) → k < length lasts
    → get_or (lasts ++ (top ∷ top ∷ top ∷ [])) k 0 ≡ get_or lasts k 0
read_own lasts top k l = get_or_append_left lasts (top ∷ top ∷ top ∷ []) 0 k l

of_three : (top j : ℕ) → j < 3 → get_or (top ∷ top ∷ top ∷ []) j 0 ≡ top
of_three top zero l = refl
of_three top (suc zero) l = refl
of_three top (suc (suc zero)) l = refl
of_three top (suc (suc (suc j))) l = absurd (omega arith)

read_more : (lasts : List ℕ) (top k : ℕ) → length lasts ≤ k → k < length lasts + 3
    → get_or (lasts ++ (top ∷ top ∷ top ∷ [])) k 0 ≡ top
read_more lasts top k le l =
    let j : ℕ = k - length lasts in
    let e : length lasts + j ≡ k = omega arith in
    subst (λ (i : ℕ). get_or (lasts ++ (top ∷ top ∷ top ∷ [])) i 0 ≡ top) e
    (get_or-append-add lasts (top ∷ top ∷ top ∷ []) j 0 ∙ of_three top j (omega arith))

padded_is : (w : ℕ) (lasts : List ℕ) (top : ℕ) → IsPartition w lasts → top + 1 ≡ 2 ^ w
    → IsPadded w (lasts ++ (top ∷ top ∷ top ∷ []))
padded_is w lasts top h is =
    let all : List ℕ = lasts ++ (top ∷ top ∷ top ∷ []) in
    let some = h.some in
    let size : length all ≡ length lasts + 3 = length-append lasts (top ∷ top ∷ top ∷ []) in
    let k : ℕ = length lasts - 1 in
    let own : get_or all k 0 ≡ get_or lasts k 0 = read_own lasts top k (omega arith) in
    let q : get_or lasts k 0 + 1 ≡ 2 ^ w = h.last k (omega arith) in
    let e : k ≡ length all - 4 = omega arith in
    record {
      some = omega arith;
      ascending = record {
        order = λ i j le l.
            ⊎_elim
            (λ (early : j < length lasts).
            let ri = read_own lasts top i (omega arith) in
            let rj = read_own lasts top j early in
            ⊎_elim
            (λ (less : i < j).
            let a : get_or lasts i 0 < get_or lasts j 0 = h.ascending i j less early in
            omega arith)
            (λ (ge : j ≤ i).
            let same : i ≡ j = omega arith in
            subst (λ (m : ℕ). get_or all i 0 ≤ get_or all m 0) same (omega arith))
            (cases_lt i j))
            (λ (late : length lasts ≤ j).
            let rj = read_more lasts top j late (omega arith) in
            ⊎_elim
            (λ (early : i < length lasts).
            let ri = read_own lasts top i early in
            let m = at_most_top w lasts top i h is early in omega arith)
            (λ (both : length lasts ≤ i). let ri = read_more lasts top i both (omega arith) in
            omega arith)
            (cases_lt i (length lasts)))
            (cases_lt j (length lasts));
      };
      top = subst (λ (j : ℕ). get_or all j 0 + 1 ≡ 2 ^ w) e (omega arith);
    }

-- three numbers pushed one after the other
pushed : (lasts : List ℕ) (top : ℕ) → ((lasts ++ top ∷ []) ++ top ∷ []) ++ top ∷ [] ≡ lasts ++
    (top ∷ top ∷ top ∷ [])
pushed lasts top = simp append_assoc

unpadded_is : (lasts : List ℕ) (top : ℕ) → unpadded (lasts ++ (top ∷ top ∷ top ∷ [])) ≡ lasts
unpadded_is lasts top =
    let size : length (lasts ++ (top ∷ top ∷ top ∷ [])) ≡ length lasts + 3
    = length-append lasts (top ∷ top ∷ top ∷ []) in
    let n : length (lasts ++ (top ∷ top ∷ top ∷ [])) - 3 ≡ length lasts = omega arith in
    rw n (take-append_seam lasts (top ∷ top ∷ top ∷ []))

pub pads : (w : ℕ) (lasts all : List ℕ) (top : ℕ)
    → all ≡ ((lasts ++ top ∷ []) ++ top ∷ []) ++ top ∷ []
    → IsPartition w lasts → top + 1 ≡ 2 ^ w → Pads w lasts all
pads w lasts all top e h is =
    subst (λ (xs : List ℕ). Pads w lasts xs) (sym (e ∙ pushed lasts top))
    (record { is_padded = padded_is w lasts top h is; own = unpadded_is lasts top })

-- ---- a number of w bits is found

pub is_within : (w : ℕ) (padded : List ℕ) (x : ℕ) → IsPadded w padded → x < 2 ^ w
    → IsWithin padded x
is_within w padded x i small =
    let q = i.top in
    record { some = i.some; most = omega arith }

-- the place of a number is that of its range
pub lies : (lasts : List ℕ) (x at : ℕ) → IsPlaceOf lasts x at → LiesAt (unpadded lasts) x at
lies lasts x at h =
    let room = h.room in
    let size : length (take (length lasts - 3) lasts) ≡ length lasts - 3
    = omega (arith, length-take {A = ℕ}) in
    record {
      one = omega arith;
      after = λ k l. rw (get_or-take (length lasts - 3) lasts k 0 (omega arith)) (h.after k l);
      within = rw (get_or-take (length lasts - 3) lasts at 0 (omega arith)) h.within;
    }
