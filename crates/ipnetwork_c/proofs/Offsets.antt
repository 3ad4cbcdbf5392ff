-- Offsets checked one after the other.
use Rattle.ipnetwork_c.proofs.Words.{◌≡◌, ⊎_elim, ℕ, zero, suc, ◌+◌, ◌-◌, ◌<◌, ◌≤◌, List, length, get_or, ap, refl, arith, cases_lt, AreOffsets}

-- none of the first `count` offsets is less than the one before
abbrev pub Rise : List ℕ → ℕ → Type 0
Rise offsets count = (k : ℕ) → k + 1 < count → get_or offsets k 0 ≤ get_or offsets (k + 1) 0

-- one of the first `count` offsets is less than the one before
abbrev pub Fall : List ℕ → ℕ → Type 0
Fall offsets count = (k : ℕ) × (k + 1 < count) × (get_or offsets (k + 1) 0 < get_or offsets k 0)

-- the last of the first `count` offsets, or 0 if there are none
pub record IsLast (offsets : List ℕ) (count last : ℕ) : Type 0 where
  pub none : count ≡ 0 → last ≡ 0
  pub some : (k : ℕ) → count ≡ k + 1 → last ≡ get_or offsets k 0

-- ---- one more offset

pub last_here : (offsets : List ℕ) (count : ℕ) → IsLast offsets (count + 1) (get_or offsets count 0)
last_here offsets count = record {
  none = λ e. absurd (omega (arith, e));
  some = λ k e. let here : count ≡ k = omega (arith, e) in ap (λ j. get_or offsets j 0) here;
}

pub rise_on : (offsets : List ℕ) (count last : ℕ) → Rise offsets count → IsLast offsets count last
    → last ≤ get_or offsets count 0 → Rise offsets (count + 1)
rise_on offsets count last rise is up k below = ⊎_elim
    (λ (before : k + 1 < count). rise k before)
    (λ (here : count ≤ k + 1).
    let end : count ≡ k + 1 = omega (arith, below, here) in
    let was = is.some k end in
    let same : get_or offsets count 0 ≡ get_or offsets (k + 1) 0 = ap (λ j. get_or offsets j 0) end in
    omega (arith, was, up, same))
    (cases_lt (k + 1) count)

pub fall_on : (offsets : List ℕ) (count : ℕ) → Fall offsets count → Fall offsets (count + 1)
fall_on offsets count fall = let before = fall.1 in (fall.0, omega (arith, before), fall.2)

pub fall_here : (offsets : List ℕ) (count last : ℕ) → IsLast offsets count last → get_or offsets count 0 < last
    → Fall offsets (count + 1)
fall_here offsets zero last is less = let was = is.none refl in absurd (omega (arith, was, less))
fall_here offsets (suc k) last is less =
    let end : suc k ≡ k + 1 = omega arith in
    let was = is.some k end in
    let same : get_or offsets (suc k) 0 ≡ get_or offsets (k + 1) 0 = ap (λ j. get_or offsets j 0) end in
    (k, omega arith, omega (arith, was, same, less))

-- ---- all offsets

-- each of rising offsets is at most the last
up_to_last : (offsets : List ℕ) (count last distance i : ℕ) → Rise offsets count → IsLast offsets count last
    → i + distance + 1 ≡ count → get_or offsets i 0 ≤ last
up_to_last offsets count last zero i rise is e = let was = is.some i (omega (arith, e)) in omega (arith, was)
up_to_last offsets count last (suc distance) i rise is e =
    let step = rise i (omega (arith, e)) in
    let rest = up_to_last offsets count last distance (i + 1) rise is (omega (arith, e)) in
    omega (arith, step, rest)

-- rising offsets are offsets of the texts if the last is at most the texts' length
pub are_where_last_fits : (texts offsets : List ℕ) (count last : ℕ) → count ≡ length offsets → Rise offsets count
    → IsLast offsets count last → last ≤ length texts → AreOffsets texts offsets
are_where_last_fits texts offsets count last all rise is fits = record {
  within = λ i below. let up = up_to_last offsets count last (count - (i + 1)) i rise is (omega (arith, all, below)) in
      omega (arith, up, fits);
  rising = λ i below. rise i (omega (arith, all, below));
}

-- the last of the texts' offsets is at most the texts' length
pub last_fits : (texts offsets : List ℕ) (count last : ℕ) → count ≡ length offsets → IsLast offsets count last
    → AreOffsets texts offsets → last ≤ length texts
last_fits texts offsets zero last all is are = let was = is.none refl in omega (arith, was)
last_fits texts offsets (suc k) last all is are =
    let was = is.some k (omega arith) in
    let fits = are.within k (omega (arith, all)) in
    omega (arith, was, fits)
