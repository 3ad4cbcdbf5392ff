-- The next network or address of a line, stretch by stretch.
use Rattle.line_addresses.proofs.Words.{◌≡◌, ℕ, ◌+◌, ◌-◌, ◌<◌, ◌≤◌, Bool, true, false, not, List, [], ◌∷◌, ◌++◌, length, length-take, take, drop, get_or, None, Some, refl, sym, ap, subst, ◌∙◌, arith, inl, inr, IfSome, MatchOption, flat_map, slice_index, All, cons_option, slice_range, cases_lt, drop_all, drop_more, drop-drop, drop-take, addresses_of, IsNextOf, IsPicked, StopsARun, spelled_at, is_stretch_byte, network_in, networks_in, networks_of, or_addresses, has_slash, IsStretchEnd, Found}
use Rattle.std.specs.Prelude.{Option}
use Rattle.line_addresses.proofs.LineParts.{Gathers, flattens, part_at, cut_at, at_end}
use Rattle.line_addresses.proofs.NextRuns.{inner_text}
use Rattle.line_addresses.proofs.Shown.{nothing_shown}
use Rattle.line_addresses.proofs.StretchNetworks.{none_without, slash_first, slash_left}

abbrev pub ends_stretch : ℕ → Bool
ends_stretch byte = not (is_stretch_byte byte)

-- a stretch without a network has its addresses
pub addresses_left : (stretch : List ℕ) → network_in stretch ≡ None → networks_in stretch ≡ addresses_of stretch
addresses_left stretch none = ap (λ o. or_addresses o stretch) none

pub nothing_in : networks_in [] ≡ []
nothing_in = addresses_left [] (none_without [] refl) ∙ ap (λ o. cons_option o []) nothing_shown

pub stretches : Gathers (flat_map networks_in) (λ stretch others. networks_in stretch ++ others)
stretches = flattens networks_in nothing_in

-- ---- the first network or address of a stretch

pub one_network : (stretch : List ℕ) (found : Found) → 0 < length stretch → IsPicked (network_in stretch) stretch found
    → IsNextOf networks_in stretch 0
    (record { address = found.address; start = found.start; end = found.end; next = length stretch })
one_network stretch found some picked = record {
  behind = omega arith;
  text = picked.ordered;
  before_next = picked.within;
  further = some;
  within = omega arith;
  first = ap (λ o. or_addresses o stretch) picked.is ∙ ap (λ l. spelled_at stretch found ∷ l)
      (sym (ap networks_in (drop_all (length stretch) stretch (omega arith)) ∙ nothing_in));
}

-- after an address of a stretch, only addresses follow
addresses_behind : (stretch : List ℕ) (found : Found) → All (λ byte. not (is_stretch_byte byte) ≡ false) stretch
    → StopsARun stretch found → networks_in (drop found.next stretch) ≡ addresses_of (drop found.next stretch)
addresses_behind stretch found whole stops = elim (cases_lt found.next (length stretch)) [
  | inl below ↦ let rest = drop_more stretch found.next 0 below in
      addresses_left (drop found.next stretch) (none_without (drop found.next stretch)
      (ap has_slash rest ∙ slash_first (get_or stretch found.next 0) (drop (found.next + 1) stretch)
      (slash_left (get_or stretch found.next 0) (whole found.next 0 below) (stops below))))
  | inr past ↦ let rest = drop_all found.next stretch past in ap networks_in rest ∙ nothing_in
      ∙ sym (ap addresses_of rest ∙ ap (λ o. cons_option o []) nothing_shown)
]

pub no_network : (stretch : List ℕ) (found : Option Found) → All (λ byte. not (is_stretch_byte byte) ≡ false) stretch
    → network_in stretch ≡ None
    → MatchOption found (addresses_of (drop 0 stretch) ≡ []) (IsNextOf addresses_of stretch 0) → IfSome found
    (StopsARun stretch) → MatchOption found (networks_in stretch ≡ []) (IsNextOf networks_in stretch 0)
no_network stretch None whole none h stops = addresses_left stretch none ∙ h
no_network stretch (Some found) whole none h stops = record {
  behind = h.behind;
  text = h.text;
  before_next = h.before_next;
  further = h.further;
  within = h.within;
  first = addresses_left stretch none ∙ h.first
      ∙ ap (λ l. spelled_at stretch found ∷ l) (sym (addresses_behind stretch found whole stops));
}

-- ---- one stretch further

module _ (line : List ℕ) (from at : ℕ) (same : networks_of (drop from line) ≡ networks_of (drop at line)) where
  -- a byte that is not a stretch byte
  pub behind_byte : (end : ℕ) → at < length line → IsStretchEnd line at end → end ≡ at
      → networks_of (drop from line) ≡ networks_of (drop (at + 1) line)
  behind_byte end below is here =
      let stops : ends_stretch (slice_index line at) ≡ true =
      subst (λ (n : ℕ). ends_stretch (slice_index line n) ≡ true) here (is.stops (omega (arith, below, here))) in
      same ∙ cut_at stretches ends_stretch line at below stops

  -- a stretch without an address
  pub behind_stretch : (end : ℕ) → IsStretchEnd line at end → networks_in (slice_range line at end) ≡ []
      → networks_of (drop from line) ≡ networks_of (drop end line)
  behind_stretch end is none = same ∙ part_at stretches ends_stretch line at end is
      ∙ ap (λ l. l ++ networks_of (drop end line)) none

  -- a stretch with an address or a network
  pub at_stretch : (end : ℕ) (found : Found) → from ≤ at → IsStretchEnd line at end
      → IsNextOf networks_in (slice_range line at end) 0 found
      → IsNextOf networks_of line from
      (record { address = found.address; start = at + found.start; end = at + found.end; next = at + found.next })
  at_stretch end found low is next =
      let stretch = slice_range line at end in
      let size : length stretch ≤ end - at = omega (arith, length-take (end - at) (drop at line)) in
      let later : IsStretchEnd line (at + found.next) end = record {
        behind = omega (arith, next.within, size, is.behind);
        within = is.within;
        before = λ position begin below. is.before position (omega (arith, begin)) below;
        stops = is.stops;
      } in
      let rest : slice_range line (at + found.next) end ≡ drop found.next stretch =
      let count : end - at ≡ found.next + (end - (at + found.next)) = omega (arith, next.within, size, is.behind) in
      sym (ap (λ n. drop found.next (take n (drop at line))) count
      ∙ drop-take found.next (end - (at + found.next)) (drop at line)
      ∙ ap (λ t. take (end - (at + found.next)) t) (drop-drop found.next at line)) in
      let text : slice_range stretch found.start found.end ≡ slice_range line (at + found.start) (at + found.end) =
      inner_text line at end found.start found.end next.text (omega (arith, next.before_next, next.within, size)) in
      record {
        behind = omega (arith, low);
        text = omega (arith, next.text);
        before_next = omega (arith, next.before_next);
        further = omega (arith, low, next.further);
        within = omega (arith, later.behind, is.within);
        first = same ∙ part_at stretches ends_stretch line at end is
            ∙ ap (λ l. l ++ networks_of (drop end line)) next.first
            ∙ ap (λ l. spelled_at stretch found ∷ l) (sym (part_at stretches ends_stretch line (at + found.next) end
            later ∙ ap (λ t. networks_in t ++ networks_of (drop end line)) rest))
            ∙ ap (λ t. record { text = t; address = found.address } ∷ networks_of (drop (at + found.next) line)) text;
      }

  pub no_more : length line ≤ at → networks_of (drop from line) ≡ []
  no_more past = same ∙ at_end stretches ends_stretch line at past
