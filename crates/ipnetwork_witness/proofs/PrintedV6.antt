-- IPv6: std prints an address as its canonical text.
use Rattle.ipnetwork_witness.proofs.Words.{◌≡◌, ◌↔◌, ℕ, ◌+◌, ◌-◌, ◌/◌, ◌%◌, ◌^◌, ◌<◌, ◌≤◌, true≢false, List, [], ◌∷◌, ◌++◌, length, take, drop, replicate, get_or, refl, sym, ap, ap₂, ◌∙◌, arith, length-take-le, length-drop, get_or-drop, cond_both, ltb-true, ltb-false, same_number_lists, length-replicate, get_or-take, get_or-replicate, bytes_eq-Decides, IsZeroRun-longest_zero_run, longest_zero_run_first, number_from_digits, AllBelowBase, ipv4_text, ipv6_text, hex_groups_text, longest_zero_run, colon, octets_of, segments_of, IsMapped, IsZeroRun, IsGap, IsCanonicalV6, Mapped, Gap, Whole, canonical_v6, fit_take, fit_drop, segments_fit}
use Rattle.std.proofs.NetLemmas.Texts as std_runs
use Rattle.std.specs.Net.Addr as std_addresses
use Rattle.ipnetwork_witness.proofs.Dotted.{v4_prints}
use Rattle.ipnetwork_witness.proofs.HexText.{same_groups}

-- ---- the run that is printed as `::`

run_to_std : (groups : List ℕ) (i n : ℕ) → IsZeroRun groups i n → std_runs.IsZeroRun groups i n
run_to_std groups i n run =
    let long : length (take n (drop i groups)) ≡ n =
    length-take-le n (drop i groups) (omega (arith, run.there, length-drop i groups)) in (
      run.there,
      same_number_lists (take n (drop i groups)) (replicate n 0) (long ∙ sym (length-replicate n 0))
          (λ k below.
          let within : k < n = omega (arith, below, long) in
          get_or-take n (drop i groups) k 0 within ∙ get_or-drop i groups k 0
          ∙ run.zero_groups (i + k) (omega arith) (omega (arith, within)) ∙ sym (get_or-replicate n k 0 0 within)),
    )

run_from_std : (groups : List ℕ) (i n : ℕ) → std_runs.IsZeroRun groups i n → IsZeroRun groups i n
run_from_std groups i n run = record {
  there = run.0;
  zero_groups = λ place from to.
      let k : ℕ = place - i in
      let within : k < n = omega (arith, from, to) in
      let at : i + k ≡ place = omega (arith, from) in
      ap (λ p. get_or groups p 0) (sym at)
      ∙ sym (get_or-take n (drop i groups) k 0 within ∙ get_or-drop i groups k 0)
      ∙ ap (λ t. get_or t k 0) run.1
      ∙ get_or-replicate n k 0 0 within;
}

gap_of : (groups : List ℕ) → 1 < (longest_zero_run groups).1
    → IsGap groups (longest_zero_run groups).0 (longest_zero_run groups).1
gap_of groups several = record {
  several = omega (arith, several);
  zeros = run_from_std groups _ _ (IsZeroRun-longest_zero_run groups);
  longest = λ j m run. (longest_zero_run_first groups j m (run_to_std groups j m run)).0;
  leftmost = λ j run. (longest_zero_run_first groups j _ (run_to_std groups j _ run)).1 refl;
}

no_gap : (groups : List ℕ) → (longest_zero_run groups).1 ≤ 1 → (i n : ℕ) → ¬ (IsGap groups i n)
no_gap groups few i n gap =
    omega (arith, few, gap.several, (longest_zero_run_first groups i n (run_to_std groups i n gap.zeros)).0)

-- ---- the groups of an address

-- ---- IPv4-mapped addresses

abbrev mark : List ℕ
mark = 0 ∷ 0 ∷ 0 ∷ 0 ∷ 0 ∷ 0xffff ∷ []

six_groups : (n : ℕ) → n < 2 ^ 128 → n / 2 ^ 32 ≡ number_from_digits (2 ^ 16) (take 6 (segments_of n))
six_groups n fits = omega (arith, fits)

mapped_of_mark : (n : ℕ) → n < 2 ^ 128 → take 6 (segments_of n) ≡ mark → IsMapped n
mapped_of_mark n fits e = six_groups n fits ∙ ap (number_from_digits (2 ^ 16)) e

mark_of_mapped : (n : ℕ) → IsMapped n → take 6 (segments_of n) ≡ mark
mark_of_mapped n mapped =
    let a : n / 2 ^ 16 / 2 ^ 16 / 2 ^ 16 / 2 ^ 16 / 2 ^ 16 / 2 ^ 16 / 2 ^ 16 % 2 ^ 16 ≡ 0 = omega (arith, mapped) in
    let b : n / 2 ^ 16 / 2 ^ 16 / 2 ^ 16 / 2 ^ 16 / 2 ^ 16 / 2 ^ 16 % 2 ^ 16 ≡ 0 = omega (arith, mapped) in
    let c : n / 2 ^ 16 / 2 ^ 16 / 2 ^ 16 / 2 ^ 16 / 2 ^ 16 % 2 ^ 16 ≡ 0 = omega (arith, mapped) in
    let d : n / 2 ^ 16 / 2 ^ 16 / 2 ^ 16 / 2 ^ 16 % 2 ^ 16 ≡ 0 = omega (arith, mapped) in
    let e : n / 2 ^ 16 / 2 ^ 16 / 2 ^ 16 % 2 ^ 16 ≡ 0 = omega (arith, mapped) in
    let f : n / 2 ^ 16 / 2 ^ 16 % 2 ^ 16 ≡ 0xffff = omega (arith, mapped) in
    rw (a, b, c, d, e, f)

low_octets : (n : ℕ) → octets_of (n % 2 ^ 32) ≡ std_addresses.octets_of (drop 6 (segments_of n))
low_octets n =
    let m : ℕ = n % 2 ^ 32 in
    let a : m / 256 / 256 / 256 % 256 ≡ n / 2 ^ 16 % 2 ^ 16 / 256 = omega arith in
    let b : m / 256 / 256 % 256 ≡ n / 2 ^ 16 % 2 ^ 16 % 256 = omega arith in
    let c : m / 256 % 256 ≡ n % 2 ^ 16 / 256 = omega arith in
    let d : m % 256 ≡ n % 2 ^ 16 % 256 = omega arith in
    rw (a, b, c, d)

-- ---- std's text

printed : (n : ℕ) → n < 2 ^ 128 → IsCanonicalV6 (ipv6_text (segments_of n)) n
unfolding ipv6_text hex_groups_text
printed n fits =
    let groups : List ℕ = segments_of n in
    let run : ℕ × ℕ = longest_zero_run groups in
    let fit : AllBelowBase (2 ^ 16) groups = segments_fit n in
    let decides = bytes_eq-Decides (take 6 groups) mark in
    let same = λ (gs : List ℕ) (h : AllBelowBase (2 ^ 16) gs). sym (same_groups gs h) in
    cond_both _ _ _ (λ text. IsCanonicalV6 text n)
    (λ is. Mapped (mapped_of_mark n fits (decides.0 is)) (ap (λ t. (colon ∷ colon ∷ 102 ∷ 102 ∷ 102 ∷ 102 ∷ colon ∷ [])
    ++ t) (sym (v4_prints (n % 2 ^ 32) ∙ ap ipv4_text (low_octets n)))))
    (λ not.
    let other : ¬ (IsMapped n) = λ mapped. true≢false (sym (decides.1 (mark_of_mapped n mapped)) ∙ not) in
    cond_both _ _ _ (λ text. IsCanonicalV6 text n)
    (λ several. Gap other run.0 run.1 (gap_of groups (ltb-true 1 run.1 several)) (ap₂ (λ x y. x ++ (colon ∷ colon ∷ [])
    ++ y) (same _ (fit_take run.0 groups fit)) (same _ (fit_drop (run.0 + run.1) groups fit))))
    (λ few. Whole other (no_gap groups (ltb-false 1 run.1 few)) (same groups fit)))

pub v6_prints : ((text : List ℕ) (address : ℕ) → IsCanonicalV6 text address ↔ (text ≡ canonical_v6 address)) → (n : ℕ)
    → n < 2 ^ 128 → canonical_v6 n ≡ ipv6_text (segments_of n)
v6_prints one_text n fits = sym ((one_text (ipv6_text (segments_of n)) n).0 (printed n fits))
