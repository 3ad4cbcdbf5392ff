-- The cuts of the ranges of a set.
use Rattle.ipnetwork_index.proofs.Words.{◌≡◌, ◌↔◌, ℕ, zero, suc, ◌+◌, ◌-◌, ◌*◌, ◌/◌, ◌^◌, ◌<◌, ◌≤◌, Bool, true, false, List, [], ◌∷◌, ◌++◌, length, get_or, arith, inl, inr, sym, refl, ap, subst, ◌∙◌, ⊎_elim, length-append, ◌≢◌, true≢false, All, AllPairs, flat_map, cases_eq, cases_lt, pow_pos, get_or_push, append-nil, Network, low, high, block_size, InUnion, FromTo, least_unique, pairs_head, pairs_tail, IsAddressSet, InRanges, least_blocks, least_blocks_of, ranges_cons, ranges_nil, whole, whole_quotient, is_inside, before, cuts_of, AreCutsOf, Rises, Closes, EndsWhole, EndsBefore}
use Rattle.ipnetwork_index.proofs.Inside.{inside_within, inside_after}

abbrev pub Range : Type 0
Range = ℕ × ℕ

abbrev Gap : Range → Range → Type 0
Gap r s = r.1 + 1 < s.0

-- ---- numbers that ascend

rises_from : (least : ℕ) (xs : List ℕ) → Rises least xs → (k : ℕ) → k < length xs
    → least ≤ get_or xs k 0
rises_from least [] h k l = absurd (omega arith)
rises_from least (x ∷ xs) h zero l = h.0
rises_from least (x ∷ xs) h (suc k) l =
    let r = rises_from (x + 1) xs h.1 k (omega arith) in
    let a : least ≤ x = h.0 in
    omega arith

pub rises_pairs : (least : ℕ) (xs : List ℕ) → Rises least xs → (i j : ℕ) → i < j → j < length xs
    → get_or xs i 0 < get_or xs j 0
rises_pairs least [] h i j l m = absurd (omega arith)
rises_pairs least (x ∷ xs) h i zero l m = absurd (omega arith)
rises_pairs least (x ∷ xs) h zero (suc j) l m =
    let r = rises_from (x + 1) xs h.1 j (omega arith) in
    omega arith
rises_pairs least (x ∷ xs) h (suc i) (suc j) l m = rises_pairs (x + 1) xs h.1 i j (omega arith)
    (omega arith)

pub rises_push : (least : ℕ) (xs : List ℕ) (y : ℕ) → Rises least xs → least ≤ y
    → ((k : ℕ) → k < length xs → get_or xs k 0 < y) → Rises least (xs ++ y ∷ [])
rises_push least [] y h l less = (l, tt)
rises_push least (x ∷ xs) y h l less =
    let first : x < y = less 0 (omega arith) in
    (h.0, rises_push (x + 1) xs y h.1 (omega arith) (λ k m. less (suc k) (omega arith)))

-- ---- closed by the greatest number

pub closes_same : (w : ℕ) (cuts : List ℕ) → Rises 0 cuts → EndsWhole w cuts → Closes w cuts cuts
closes_same w cuts h e = record {
  partition = record { ascending = rises_pairs 0 cuts h; some = e.some; last = e.last };
  either = inl refl;
}

pub closes_pushed : (w : ℕ) (cuts : List ℕ) (top : ℕ) → Rises 0 cuts → EndsBefore w cuts
    → top + 1 ≡ 2 ^ w → Closes w cuts (cuts ++ top ∷ [])
closes_pushed w cuts top h e is =
    let size : length (cuts ++ top ∷ []) ≡ length cuts + 1 = length-append cuts (top ∷ []) in
    let less : (k : ℕ) → k < length cuts → get_or cuts k 0 < top = λ k l.
    ⊎_elim
    (λ (q : k + 1 ≡ length cuts). let m : get_or cuts k 0 + 1 < 2 ^ w = e.last k q in omega arith)
    (λ (ne : k + 1 ≢ length cuts).
    let j : ℕ = length cuts - 1 in
    let q : get_or cuts j 0 + 1 < 2 ^ w = e.last j (omega arith) in
    let a : get_or cuts k 0 < get_or cuts j 0
    = rises_pairs 0 cuts h k j (omega arith) (omega arith) in
    omega arith)
    (cases_eq (k + 1) (length cuts)) in
    record {
      partition = record {
        ascending = rises_pairs 0 (cuts ++ top ∷ []) (rises_push 0 cuts top h (omega arith) less);
        some = omega arith;
        last = λ k q.
            let r : get_or (cuts ++ top ∷ []) k 0 ≡ top = get_or_push cuts top 0 k (omega arith) in
            omega arith;
      };
      either = inr (top, is, refl);
    }

-- ---- the cuts of ranges ascend

piece_rises : (first last least : ℕ) (rest : List ℕ) → first ≤ last → least ≤ first - 1
    → Rises (last + 1) rest
    → Rises least ((before first ++ last ∷ []) ++ rest)
piece_rises zero last least rest o l h = (omega arith, h)
piece_rises (suc n) last least rest o l h = (omega arith, (omega arith, h))

cuts_rise : (least : ℕ) (rs : List Range) → All (λ r. r.0 ≤ r.1) rs → AllPairs Gap rs
    → ((k : ℕ) (d : Range) → k < length rs → least ≤ (get_or rs k d).0 - 1)
    → Rises least (flat_map cuts_of rs)
cuts_rise least [] o a h = tt
cuts_rise least (r ∷ rs) o a h =
    piece_rises r.0 r.1 least (flat_map cuts_of rs) (o 0 r (omega arith)) (h 0 r (omega arith))
    (cuts_rise (r.1 + 1) rs (λ k d l. o (suc k) d (omega arith)) (λ i j d l m. a (suc i) (suc j) d
    (omega arith) (omega arith))
    (λ k d l.
    let g : r.1 + 1 < (get_or rs k d).0 = a 0 (suc k) d (omega arith) (omega arith) in
    omega arith))

pub set_cuts_rise : (set : ℕ → Type 0) (cuts : List ℕ) → AreCutsOf set cuts → Rises 0 cuts
set_cuts_rise set cuts h = subst (λ (xs : List ℕ). Rises 0 xs) (sym h.cuts_are)
    (cuts_rise 0 h.ranges h.all.ordered h.all.apart (λ k d l. omega arith))

-- ---- the cuts determine the set

all_tail : (r : Range) (rs : List Range) → All (λ s. s.0 ≤ s.1) (r ∷ rs) → All (λ s. s.0 ≤ s.1) rs
all_tail r rs o k d l = o (suc k) d (omega arith)

-- no address of the ranges comes before the first range
none_before : (r : Range) (rs : List Range) (x : ℕ) → All (λ s. s.0 ≤ s.1) (r ∷ rs)
    → AllPairs Gap (r ∷ rs) → InRanges (r ∷ rs) x → r.0 ≤ x
none_before r rs x o a c =
    ⊎_elim
    (λ (f : FromTo r.0 r.1 x). f.0)
    (λ (d : InRanges rs x).
    let g : r.1 + 1 < d.0.0 = pairs_head Gap r rs a d.0 d.1 in
    let own : r.0 ≤ r.1 = o 0 r (omega arith) in
    let from : d.0.0 ≤ x = d.2.0 in
    omega arith)
    ((ranges_cons r rs x).0 c)

-- after the first range, the other ranges determine the set
after_first : (r : Range) (rs : List Range) (x : ℕ) {P : Type 0} → r.1 < x → P ↔ InRanges rs x
    → P ↔ InRanges (r ∷ rs) x
after_first r rs x l h =
    let both = ranges_cons r rs x in (
      (λ p. both.1 (inr (h.0 p))),
      (λ c. ⊎_elim (λ (f : FromTo r.0 r.1 x). let to : x ≤ r.1 = f.1 in absurd (omega arith))
          (λ (d : InRanges rs x). h.1 d) (both.0 c)),
    )

-- a range that begins after 0, and those after it
piece_tells : (n last : ℕ) (rs : List Range) (rest : List ℕ) (x : ℕ)
    → All (λ s. s.0 ≤ s.1) ((suc n, last) ∷ rs) → AllPairs Gap ((suc n, last) ∷ rs)
    → (last < x → (is_inside false rest x ≡ true) ↔ InRanges rs x)
    → (is_inside false (n ∷ last ∷ rest) x ≡ true) ↔ InRanges ((suc n, last) ∷ rs) x
piece_tells n last rs rest x o a later =
    ⊎_elim
    (λ (l : n < x).
    let e : is_inside false (n ∷ last ∷ rest) x ≡ is_inside true (last ∷ rest) x
    = inside_after false n (last ∷ rest) x l in
    ⊎_elim
    (λ (m : last < x).
    let f : is_inside true (last ∷ rest) x ≡ is_inside false rest x
    = inside_after true last rest x m in
    subst (λ (b : Bool). (b ≡ true) ↔ InRanges ((suc n, last) ∷ rs) x) (sym (e ∙ f))
    (after_first (suc n, last) rs x m (later m)))
    (λ (m : x ≤ last).
    let f : is_inside true (last ∷ rest) x ≡ true = inside_within true last rest x m in
    ((λ t. (ranges_cons (suc n, last) rs x).1 (inl (omega arith, m))), (λ c. e ∙ f)))
    (cases_lt last x))
    (λ (l : x ≤ n).
    let e : is_inside false (n ∷ last ∷ rest) x ≡ false
    = inside_within false n (last ∷ rest) x l in (
      (λ t. absurd (true≢false (sym t ∙ e))),
      (λ c. let from : suc n ≤ x = none_before (suc n, last) rs x o a c in absurd (omega arith)),
    ))
    (cases_lt n x)

-- ranges none of which begins with 0
later_tell : (rs : List Range) (tail : List ℕ) (x : ℕ) → All (λ r. r.0 ≤ r.1) rs → AllPairs Gap rs
    → ((k : ℕ) (d : Range) → k < length rs → 1 ≤ (get_or rs k d).0) → is_inside false tail x ≡ false
    → (is_inside false (flat_map cuts_of rs ++ tail) x ≡ true) ↔ InRanges rs x
later_tell [] tail x o a p t =
    ((λ e. absurd (true≢false (sym e ∙ t))), (λ c. absurd (ranges_nil x c)))
later_tell ((zero, last) ∷ rs) tail x o a p t =
    let one : 1 ≤ 0 = p 0 (zero, last) (omega arith) in
    absurd (omega arith)
later_tell ((suc n, last) ∷ rs) tail x o a p t =
    piece_tells n last rs (flat_map cuts_of rs ++ tail) x o a
    (λ _. later_tell rs tail x (all_tail (suc n, last) rs o) (pairs_tail Gap (suc n, last) rs a)
    (λ k d l. p (suc k) d (omega arith)) t)

-- the ranges after the first begin after 0
later_begin : (r : Range) (rs : List Range) → AllPairs Gap (r ∷ rs) → (k : ℕ) (d : Range)
    → k < length rs → 1 ≤ (get_or rs k d).0
later_begin r rs a k d l =
    let g : r.1 + 1 < (get_or rs k d).0 = a 0 (suc k) d (omega arith) (omega arith) in
    omega arith

not_true : (b : Bool) → (b ≡ true → ⊥) → b ≡ false
not_true true h = absurd (h refl)
not_true false h = refl

all_tell : (rs : List Range) (first : Bool) (tail : List ℕ) (x : ℕ) → All (λ r. r.0 ≤ r.1) rs
    → AllPairs Gap rs → ((first ≡ true) ↔ InRanges rs 0)
    → is_inside false tail x ≡ false → (is_inside first (flat_map cuts_of rs ++ tail) x ≡ true) ↔
    InRanges rs x
all_tell [] first tail x o a i t =
    subst (λ (b : Bool). (is_inside b tail x ≡ true) ↔ InRanges [] x)
    (sym (not_true first (λ e. ranges_nil 0 (i.0 e))))
    (later_tell [] tail x o a (λ k d l. absurd (omega arith)) t)
all_tell ((zero, last) ∷ rs) first tail x o a i t =
    let rest : List ℕ = flat_map cuts_of rs ++ tail in
    let is : first ≡ true
    = i.1 ((ranges_cons (zero, last) rs 0).1 (inl (omega arith, omega arith))) in
    subst (λ (b : Bool). (is_inside b (last ∷ rest) x ≡ true) ↔ InRanges ((zero, last) ∷ rs) x)
    (sym is)
    (⊎_elim
    (λ (m : last < x).
    let f : is_inside true (last ∷ rest) x ≡ is_inside false rest x
    = inside_after true last rest x m in
    subst (λ (b : Bool). (b ≡ true) ↔ InRanges ((zero, last) ∷ rs) x) (sym f)
    (after_first (zero, last) rs x m
    (later_tell rs tail x (all_tail (zero, last) rs o) (pairs_tail Gap (zero, last) rs a)
    (later_begin (zero, last) rs a) t)))
    (λ (m : x ≤ last).
    let f : is_inside true (last ∷ rest) x ≡ true = inside_within true last rest x m in
    ((λ _. (ranges_cons (zero, last) rs x).1 (inl (omega arith, m))), (λ _. f)))
    (cases_lt last x))
all_tell ((suc n, last) ∷ rs) first tail x o a i t =
    let rest : List ℕ = flat_map cuts_of rs ++ tail in
    let is : first ≡ false = not_true first (λ e.
    let from : suc n ≤ 0 = none_before (suc n, last) rs 0 o a (i.0 e) in
    omega arith) in
    subst (λ (b : Bool). (is_inside b (n ∷ last ∷ rest) x ≡ true) ↔ InRanges ((suc n, last) ∷ rs) x)
    (sym is)
    (piece_tells n last rs rest x o a
    (λ _. later_tell rs tail x (all_tail (suc n, last) rs o) (pairs_tail Gap (suc n, last) rs a)
    (later_begin (suc n, last) rs a) t))

-- the closed cuts determine the set
pub closed_tell : (w : ℕ) (set : ℕ → Type 0) (first : Bool) (cuts lasts : List ℕ) (x : ℕ)
    → AreCutsOf set cuts → ((first ≡ true) ↔ set 0) → Closes w cuts lasts
    → x < 2 ^ w → (is_inside first lasts x ≡ true) ↔ set x
closed_tell w set first cuts lasts x h i c small =
    let zero_in : (first ≡ true) ↔ InRanges h.ranges 0
    = ((λ t. (h.all.addresses 0).1 (i.0 t)), (λ r. i.1 ((h.all.addresses 0).0 r))) in
    let told : (is_inside first lasts x ≡ true) ↔ InRanges h.ranges x = ⊎_elim
    (λ (same : lasts ≡ cuts).
    subst (λ (xs : List ℕ). (is_inside first xs x ≡ true) ↔ InRanges h.ranges x)
    (sym (same ∙ h.cuts_are ∙ sym (append-nil (flat_map cuts_of h.ranges))))
    (all_tell h.ranges first [] x h.all.ordered h.all.apart zero_in refl))
    (λ (more : (top : ℕ) × (top + 1 ≡ 2 ^ w) × (lasts ≡ cuts ++ top ∷ [])).
    let top : ℕ = more.0 in
    let is : top + 1 ≡ 2 ^ w = more.1 in
    subst (λ (xs : List ℕ). (is_inside first xs x ≡ true) ↔ InRanges h.ranges x)
    (sym (more.2 ∙ ap (λ (xs : List ℕ). xs ++ top ∷ []) h.cuts_are))
    (all_tell h.ranges first (top ∷ []) x h.all.ordered h.all.apart zero_in (inside_within false top
    [] x (omega arith))))
    c.either in
    ((λ t. (h.all.addresses x).0 (told.0 t)), (λ s. told.1 ((h.all.addresses x).1 s)))

-- the blocks of the set that the cuts determine are those of the set
pub blocks_back : (w : ℕ) (set : List Network) (first : Bool) (cuts lasts : List ℕ)
    → IsAddressSet w set → AreCutsOf (InUnion w set) cuts
    → ((first ≡ true) ↔ InUnion w set 0) → Closes w cuts lasts
    → least_blocks w (is_inside first lasts) ≡ set
blocks_back w set first cuts lasts s h i c =
    least_unique w (InUnion w set) (least_blocks w (is_inside first lasts)) set
    (least_blocks_of w (is_inside first lasts) (InUnion w set) (λ x u. u.2.0)
    (λ x small. closed_tell w (InUnion w set) first cuts lasts x h i c small))
    s

-- ---- the network of all addresses

pub whole_low : (w : ℕ) (n : Network) → n ≡ whole → low w n ≡ 0
whole_low w n e =
    let none : 0 / block_size w 0 ≡ 0 = whole_quotient w 0 (pow_pos w) in
    let zeros : 0 * block_size w 0 ≡ 0 = omega arith in
    subst (λ (m : Network). low w m ≡ 0) (sym e) (ap (λ (q : ℕ). q * block_size w 0) none ∙ zeros)

pub whole_high : (w : ℕ) (n : Network) → n ≡ whole → high w n + 1 ≡ 2 ^ w
whole_high w n e =
    let bits : w - 0 ≡ w = omega arith in
    let size : block_size w 0 ≡ 2 ^ w = ap (λ (k : ℕ). 2 ^ k) bits in
    let own : block_size w n.prefix ≡ 2 ^ w = ap (λ (m : Network). block_size w m.prefix) e
    ∙ size in
    let first = whole_low w n e in
    let pos = pow_pos w in
    omega arith
