-- The canonical text of an IPv6 address names it and is unique.
use Rattle.ipnetwork_addr.proofs.Words.{◌≡◌, ◌↔◌, subst, ℕ, suc, zero, ◌+◌, ◌%◌, ◌^◌, ◌<◌, ◌≤◌, false, List, [], ◌∷◌, ◌++◌, length, map, take, drop, replicate, refl, sym, ap, ◌∙◌, inl, inr, arith, lit≤, take-add, take-append-drop, length-take-le, length-drop, true≢false, ◌/◌, cond_both, leb-true, leb-false, eqb-true, colon, AllZip, number_from_digits, AllBelowBase, digits_is_IsNumeral, segments_of, canonical_v4, IsGroup, IsPlain, NamesV6, two_groups, hex, hex_groups, IsMapped, IsZeroRun, IsGap, IsCanonicalV6, Mapped, Whole, gap_among, canonical_v6}
use Rattle.std.proofs.Common.{eq-eqb}
use Rattle.ipnetwork_addr.proofs.ZeroRuns.{gap_found, no_gap, run_is_zeros}
use Rattle.ipnetwork_addr.specs.Ipv6Canonical.{Gap}
use Rattle.ipnetwork_addr.proofs.Ipv4Lemmas.{canonical_v4_names}
use Rattle.ipnetwork_addr.proofs.Ipv6Names.{v6_unique}
use Rattle.ipnetwork_addr.proofs.Hexes.{length-hex-le}

hex_is_group : (g : ℕ) → g < 2 ^ 16 → IsGroup (hex g) g
hex_is_group g fits =
    let (numeral, value) = digits_is_IsNumeral 16 false (lit≤ tt) (lit≤ tt) g (omega arith) in
    record { digits = numeral; short = length-hex-le g fits; value = sym value }

named_hex : (groups : List ℕ) → AllBelowBase (2 ^ 16) groups → AllZip IsGroup (map hex groups) groups
named_hex [] fit = tt
named_hex (g ∷ groups) fit = (hex_is_group g fit.0, named_hex groups fit.1)

hex_groups_are_plain : (groups : List ℕ) → AllBelowBase (2 ^ 16) groups → IsPlain (hex_groups groups) groups
hex_groups_are_plain groups fit = record { parts = map hex groups; spelled = refl; named = named_hex groups fit }

-- groups stay groups if some are left out. Also used by `ipnetwork_witness`
pub fit_take : (n : ℕ) (groups : List ℕ) → AllBelowBase (2 ^ 16) groups → AllBelowBase (2 ^ 16) (take n groups)
fit_take zero groups h = tt
fit_take (suc n) [] h = tt
fit_take (suc n) (g ∷ groups) h = (h.0, fit_take n groups h.1)

pub fit_drop : (n : ℕ) (groups : List ℕ) → AllBelowBase (2 ^ 16) groups → AllBelowBase (2 ^ 16) (drop n groups)
fit_drop zero groups h = h
fit_drop (suc n) [] h = h
fit_drop (suc n) (g ∷ groups) h = fit_drop n groups h.1

pub segments_fit : (address : ℕ) → AllBelowBase (2 ^ 16) (segments_of address)
segments_fit address = (
  omega arith,
  (omega arith, (omega arith, (omega arith, (omega arith, (omega arith, (omega arith, (omega arith, tt))))))),
)

pub number-segments_of : (address : ℕ) → address < 2 ^ 128 → address ≡ number_from_digits (2 ^ 16) (segments_of address)
number-segments_of address fits = omega arith

-- groups with a run of zeros left out and put back
put_back : (groups : List ℕ) (i n : ℕ) → IsZeroRun groups i n → groups ≡ take i groups ++ replicate n 0
    ++ drop (i + n) groups
put_back groups i n run = rw (← run_is_zeros groups i n run, ← take-add i n groups)
    (sym (take-append-drop (i + n) groups))

gap_named : (address : ℕ) (groups text : List ℕ) (i n : ℕ) → length groups ≡ 8 → AllBelowBase (2 ^ 16) groups
    → address ≡ number_from_digits (2 ^ 16) groups → IsGap groups i n → text ≡ hex_groups (take i groups)
    ++ (colon ∷ colon ∷ []) ++ hex_groups (drop (i + n) groups) → NamesV6 text address
gap_named address groups text i n eight fit value gap spelled =
    let within : i + n ≤ 8 = omega (arith, gap.zeros.there, eight) in
    let front = length-take-le i groups (omega arith) in
    let back = length-drop (i + n) groups in
    inr (record {
      before = hex_groups (take i groups);
      behind = hex_groups (drop (i + n) groups);
      high = take i groups;
      low = drop (i + n) groups;
      missing = n;
      split = spelled;
      high_groups = hex_groups_are_plain _ (fit_take i groups fit);
      low_groups = inl (hex_groups_are_plain _ (fit_drop (i + n) groups fit));
      some_missing = omega (arith, gap.several);
      eight = omega (arith, front, back, eight, within);
      value = value ∙ ap (number_from_digits (2 ^ 16)) (put_back groups i n gap.zeros);
    })

-- the number of an IPv4-mapped address
mapped_number : (address : ℕ) → IsMapped address
    → address ≡ number_from_digits (2 ^ 16) (0 ∷ 0 ∷ 0 ∷ 0 ∷ 0 ∷ 0xffff ∷ two_groups (address % 2 ^ 32))
mapped_number address mapped = omega (arith, mapped)

mapped_named : (address : ℕ) (text : List ℕ) → IsMapped address → text ≡ (colon ∷ colon ∷ 102 ∷ 102 ∷ 102 ∷ 102 ∷ colon
    ∷ []) ++ canonical_v4 (address % 2 ^ 32) → NamesV6 text address
mapped_named address text mapped spelled = inr (record {
  before = [];
  behind = 102 ∷ 102 ∷ 102 ∷ 102 ∷ colon ∷ canonical_v4 (address % 2 ^ 32);
  high = [];
  low = 0xffff ∷ two_groups (address % 2 ^ 32);
  missing = 5;
  split = spelled;
  high_groups = record { parts = []; spelled = refl; named = tt };
  low_groups = inr (record {
    parts = (102 ∷ 102 ∷ 102 ∷ 102 ∷ []) ∷ [];
    front = 0xffff ∷ [];
    last = canonical_v4 (address % 2 ^ 32);
    address = address % 2 ^ 32;
    spelled = refl;
    named = (
      record { digits = (lit≤ tt, (lit≤ tt, (lit≤ tt, (lit≤ tt, (lit≤ tt, tt))))); short = lit≤ tt; value = refl },
      tt,
    );
    dotted = canonical_v4_names (address % 2 ^ 32) (omega arith);
    value = refl;
  });
  some_missing = lit≤ tt;
  eight = refl;
  value = mapped_number address mapped;
})

pub canonical_v6_names : (text : List ℕ) (address : ℕ) → address < 2 ^ 128 → IsCanonicalV6 text address
    → NamesV6 text address
canonical_v6_names text address fits (Mapped mapped spelled) = mapped_named address text mapped spelled
canonical_v6_names text address fits (Gap other i n gap spelled) =
    gap_named address (segments_of address) text i n refl (segments_fit address)
    (number-segments_of address fits) gap spelled
canonical_v6_names text address fits (Whole other none spelled) = inl (record {
  groups = segments_of address;
  ended = inl (rw spelled (hex_groups_are_plain (segments_of address) (segments_fit address)));
  eight = refl;
  value = number-segments_of address fits;
})

-- there is at most one gap
same_gap : (groups : List ℕ) (i n j m : ℕ) → IsGap groups i n → IsGap groups j m → (i ≡ j) × (n ≡ m)
same_gap groups i n j m g h =
    let up : n ≤ m = h.longest i n g.zeros in
    let down : m ≤ n = g.longest j m h.zeros in
    let same : n ≡ m = omega arith in
    let left : i ≤ j = g.leftmost j (rw same h.zeros) in
    let right : j ≤ i = h.leftmost i (rw (← same) g.zeros) in
    (omega arith, same)

pub canonical_v6_unique : (address : ℕ) (text other : List ℕ) → IsCanonicalV6 text address → IsCanonicalV6 other address
    → text ≡ other
canonical_v6_unique address text other (Mapped mapped e) (Mapped mapped' e') = e ∙ sym e'
canonical_v6_unique address text other (Mapped mapped e) (Gap not i n gap e') = absurd (not mapped)
canonical_v6_unique address text other (Mapped mapped e) (Whole not none e') = absurd (not mapped)
canonical_v6_unique address text other (Gap not i n gap e) (Mapped mapped e') = absurd (not mapped)
canonical_v6_unique address text other (Gap not i n gap e) (Gap not' j m gap' e') =
    let (same_i, same_n) = same_gap (segments_of address) i n j m gap gap' in
    e ∙ rw (same_i, same_n) (sym e')
canonical_v6_unique address text other (Gap not i n gap e) (Whole not' none e') = absurd (none i n gap)
canonical_v6_unique address text other (Whole not none e) (Mapped mapped e') = absurd (not mapped)
canonical_v6_unique address text other (Whole not none e) (Gap not' i n gap e') = absurd (none i n gap)
canonical_v6_unique address text other (Whole not none e) (Whole not' none' e') = e ∙ sym e'

-- the function returns the canonical text
pub canonical_v6_is : (address : ℕ) → IsCanonicalV6 (canonical_v6 address) address
canonical_v6_is address =
    let groups = segments_of address in
    let gap = gap_among groups 8 in
    cond_both _ _ _ (λ text. IsCanonicalV6 text address)
    (λ yes. Mapped (eqb-true (address / 2 ^ 32) 0xffff yes) refl)
    (λ no.
    let other : ¬ (IsMapped address) = λ mapped. true≢false (sym (eq-eqb (address / 2 ^ 32) 0xffff mapped) ∙ no) in
    cond_both _ _ _ (λ text. IsCanonicalV6 text address)
    (λ several. Gap other gap.0 gap.1 (gap_found groups refl (leb-true 2 gap.1 several)) refl)
    (λ few. Whole other (no_gap groups refl (leb-false 2 gap.1 few)) refl))

pub canonical_v6_from : (text : List ℕ) (address : ℕ) → IsCanonicalV6 text address → text ≡ canonical_v6 address
canonical_v6_from text address h = canonical_v6_unique address text (canonical_v6 address) h (canonical_v6_is address)

pub canonical_v6_is_only : (text : List ℕ) (address : ℕ) → IsCanonicalV6 text address ↔ (text ≡ canonical_v6 address)
canonical_v6_is_only text address = (
  canonical_v6_from text address,
  λ e. subst (λ (t : List ℕ). IsCanonicalV6 t address) (sym e) (canonical_v6_is address),
)

pub canonical_v6_one_to_one : (a b : ℕ) → a < 2 ^ 128 → b < 2 ^ 128 → (a ≡ b) ↔ (canonical_v6 a ≡ canonical_v6 b)
canonical_v6_one_to_one a b fits_a fits_b = (
  λ e. ap canonical_v6 e,
  λ e.
      let named = canonical_v6_names (canonical_v6 b) b fits_b (canonical_v6_is b) in
      v6_unique (canonical_v6 a) a b (canonical_v6_names (canonical_v6 a) a fits_a (canonical_v6_is a))
      (subst (λ (t : List ℕ). NamesV6 t b) (sym e) named),
)
