-- The leftmost of the longest runs of zero groups, computed.
use Rattle.ipnetwork_addr.proofs.Words.{◌≡◌, ℕ, zero, suc, ◌+◌, ◌-◌, ◌<◌, ◌≤◌, ◌==◌, List, [], ◌∷◌, length, get_or, take, drop, replicate, length-drop, get_or-drop, refl, sym, ap, ap₂, ◌∙◌, arith, inl, inr, nat_le, cond_both, leb-true, leb-false, eqb-true, cases_eq, cases_lt, IsZeroRun, IsGap, zeros_in_front, gap_among}

-- ---- the zeros before the first nonzero group

pub zeros_fit : (groups : List ℕ) → zeros_in_front groups ≤ length groups
zeros_fit [] = omega arith
zeros_fit (g ∷ groups) =
    let more = zeros_fit groups in
    cond_both (g == 0) (suc (zeros_in_front groups)) 0 (λ n. n ≤ length (g ∷ groups)) (λ _. omega (arith, more))
    (λ _. omega arith)

zero_first : (g : ℕ) (groups : List ℕ) → g ≡ 0 → ((position : ℕ) → position < zeros_in_front groups → get_or groups
    position 0 ≡ 0) → (position : ℕ) → position < suc (zeros_in_front groups) → get_or (g ∷ groups) position 0 ≡ 0
zero_first g groups e later zero h = e
zero_first g groups e later (suc position) h = later position (omega (arith, h))

zeros_are : (groups : List ℕ) (position : ℕ) → position < zeros_in_front groups → get_or groups position 0 ≡ 0
zeros_are [] position h = refl
zeros_are (g ∷ groups) position h =
    let later : (p : ℕ) → p < zeros_in_front groups → get_or groups p 0 ≡ 0 = zeros_are groups in
    cond_both (g == 0) (suc (zeros_in_front groups)) 0 (λ n. position < n → get_or (g ∷ groups) position 0 ≡ 0)
    (λ is_zero k. zero_first g groups (eqb-true g 0 is_zero) later position k)
    (λ other k. absurd (omega (arith, k))) h

zeros_most : (groups : List ℕ) (n : ℕ) → n ≤ length groups
    → ((position : ℕ) → position < n → get_or groups position 0 ≡ 0) → n ≤ zeros_in_front groups
zeros_most groups zero within zeros = omega arith
zeros_most [] (suc n) within zeros = absurd (omega (arith, within))
zeros_most (g ∷ groups) (suc n) within zeros =
    let is_zero : g ≡ 0 = zeros 0 (omega arith) in
    let more = zeros_most groups n (omega (arith, within))
    (λ position below. zeros (suc position) (omega (arith, below))) in
    rw is_zero (omega (arith, more))

-- ---- the run that begins at a group

abbrev run_at : List ℕ → ℕ → ℕ
run_at groups start = zeros_in_front (drop start groups)

run_there : (groups : List ℕ) (start : ℕ) → start ≤ length groups → IsZeroRun groups start (run_at groups start)
run_there groups start within = record {
  there = omega (arith, zeros_fit (drop start groups), length-drop start groups, within);
  zero_groups = λ position from below. zero_at position from below;
}
  where
    zero_at : (position : ℕ) → start ≤ position → position < start + run_at groups start → get_or groups position 0 ≡ 0
    zero_at position from below =
        let k : ℕ = position - start in
        let e : start + k ≡ position = omega (arith, from) in
        ap (λ p. get_or groups p 0) (sym e) ∙ sym (get_or-drop start groups k 0)
        ∙ zeros_are (drop start groups) k (omega (arith, below, from))

run_most : (groups : List ℕ) (start n : ℕ) → IsZeroRun groups start n → n ≤ run_at groups start
run_most groups start n run =
    zeros_most (drop start groups) n (omega (arith, run.there, length-drop start groups))
    (λ position below. get_or-drop start groups position 0
    ∙ run.zero_groups (start + position) (omega arith) (omega (arith, below)))

-- ---- the longest of the runs that begin at the first groups

record IsLongest (groups : List ℕ) (count : ℕ) (found : ℕ × ℕ) : Type 0 where
  is_run : IsZeroRun groups found.0 found.1
  among : found.0 ≤ count
  none_longer : (start : ℕ) → start < count → run_at groups start ≤ found.1
  none_before : (start : ℕ) → start < count → run_at groups start ≡ found.1 → found.0 ≤ start

nothing : (groups : List ℕ) → IsZeroRun groups 0 0
nothing groups = record { there = omega arith; zero_groups = λ position from below. absurd (omega (arith, below)) }

longest_among : (groups : List ℕ) (count : ℕ) → count ≤ length groups → IsLongest groups count (gap_among groups count)
longest_among groups zero within = record {
  is_run = nothing groups;
  among = omega arith;
  none_longer = λ start below. absurd (omega (arith, below));
  none_before = λ start below. absurd (omega (arith, below));
}
longest_among groups (suc count) within =
    let left : ℕ × ℕ = gap_among groups count in
    let right : ℕ × ℕ = (count, run_at groups count) in
    let h = longest_among groups count (omega (arith, within)) in
    cond_both {A = ℕ × ℕ} (nat_le right.1 left.1) left right (IsLongest groups (suc count))
    (λ yes.
    let short : run_at groups count ≤ left.1 = leb-true right.1 left.1 yes in
    record {
      is_run = h.is_run;
      among = omega (arith, h.among);
      none_longer = λ start below. elim (cases_eq start count) [
        | inl same ↦ rw same short
        | inr other ↦ h.none_longer start (omega (arith, below, other))
      ];
      none_before = λ start below e. elim (cases_eq start count) [
        | inl same ↦ omega (arith, same, h.among)
        | inr other ↦ h.none_before start (omega (arith, below, other)) e
      ];
    })
    (λ no.
    let long : left.1 < run_at groups count = leb-false right.1 left.1 no in
    record {
      is_run = run_there groups count (omega (arith, within));
      among = omega arith;
      none_longer = λ start below. elim (cases_eq start count) [
        | inl same ↦ rw same (omega arith)
        | inr other ↦ omega (arith, h.none_longer start (omega (arith, below, other)), long)
      ];
      none_before = λ start below e. elim (cases_eq start count) [
        | inl same ↦ omega (arith, same)
        | inr other ↦ absurd (omega (arith, h.none_longer start (omega (arith, below, other)), long, e))
      ];
    })

-- ---- the longest run of eight groups

module _ (groups : List ℕ) (eight : length groups ≡ 8) where
  found : IsLongest groups 8 (gap_among groups 8)
  found = longest_among groups 8 (omega (arith, eight))

  none_longer_than : (start n : ℕ) → IsZeroRun groups start n → n ≤ (gap_among groups 8).1
  none_longer_than start n run = elim (cases_lt start 8) [
    | inl below ↦ omega (arith, run_most groups start n run, found.none_longer start below)
    | inr past ↦ omega (arith, run.there, eight, past)
  ]

  pub gap_found : 2 ≤ (gap_among groups 8).1 → IsGap groups (gap_among groups 8).0 (gap_among groups 8).1
  gap_found several = record {
    several = several;
    zeros = found.is_run;
    longest = none_longer_than;
    leftmost = λ start run.
        let below : start < 8 = omega (arith, run.there, eight, several) in
        found.none_before start below (omega (arith, run_most groups start _ run, found.none_longer start below));
  }

  pub no_gap : (gap_among groups 8).1 < 2 → (i n : ℕ) → ¬ (IsGap groups i n)
  no_gap few i n gap = omega (arith, none_longer_than i n gap.zeros, gap.several, few)

-- ---- the groups of a run

all_zeros : (n : ℕ) (groups : List ℕ) → n ≤ length groups
    → ((position : ℕ) → position < n → get_or groups position 0 ≡ 0) → take n groups ≡ replicate n 0
all_zeros zero groups within zeros = refl
all_zeros (suc n) [] within zeros = absurd (omega (arith, within))
all_zeros (suc n) (g ∷ groups) within zeros =
    ap₂ (λ x xs. x ∷ xs) (zeros 0 (omega arith))
    (all_zeros n groups (omega (arith, within)) (λ position below. zeros (suc position) (omega (arith, below))))

pub run_is_zeros : (groups : List ℕ) (i n : ℕ) → IsZeroRun groups i n → take n (drop i groups) ≡ replicate n 0
run_is_zeros groups i n run =
    all_zeros n (drop i groups) (omega (arith, run.there, length-drop i groups))
    (λ position below. get_or-drop i groups position 0
    ∙ run.zero_groups (i + position) (omega arith) (omega (arith, below)))
