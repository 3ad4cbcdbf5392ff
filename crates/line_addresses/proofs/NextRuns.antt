-- The next address of a line, run by run.
use Rattle.line_addresses.proofs.Words.{◌≡◌, ℕ, ◌+◌, ◌-◌, ◌<◌, ◌≤◌, Bool, true, not, List, [], ◌∷◌, length, length-take, take, drop, None, ap, sym, subst, ◌∙◌, arith, inl, inr, cases_lt, filter_map, slice_index, cons_option, slice_range, drop-drop, drop-take, take-take, address_in, addresses_of, IsNextOf, IsPicked, IsRunEnd, is_run_byte, Found}
use Rattle.line_addresses.proofs.LineParts.{Gathers, filters, part_at, cut_at, at_end}
use Rattle.line_addresses.proofs.Shown.{nothing_shown}

abbrev pub ends_runs : ℕ → Bool
ends_runs byte = not (is_run_byte byte)

pub runs : Gathers (filter_map address_in) (λ run found. cons_option (address_in run) found)
runs = filters address_in nothing_shown

-- the text of a part of a part of a line
pub inner_text : (line : List ℕ) (at end first last : ℕ) → first ≤ last → last ≤ end - at
    → slice_range (slice_range line at end) first last ≡ slice_range line (at + first) (at + last)
inner_text line at end first last ordered within =
    let count : end - at ≡ first + (end - at - first) = omega (arith, ordered, within) in
    let fits : last - first ≤ end - at - first = omega (arith, ordered, within) in
    let same_count : last - first ≡ at + last - (at + first) = omega arith in
    ap (λ n. take (last - first) (drop first (take n (drop at line)))) count
    ∙ ap (λ t. take (last - first) t) (drop-take first (end - at - first) (drop at line))
    ∙ take-take (last - first) (end - at - first) (drop first (drop at line)) fits
    ∙ ap (λ t. take (last - first) t) (drop-drop first at line)
    ∙ ap (λ n. take n (drop (at + first) line)) same_count

module _ (line : List ℕ) (from at : ℕ) (same : addresses_of (drop from line) ≡ addresses_of (drop at line)) where
  -- a byte that is not a run byte
  pub behind_byte : (end : ℕ) → at < length line → IsRunEnd line at end → end ≡ at
      → addresses_of (drop from line) ≡ addresses_of (drop (at + 1) line)
  behind_byte end below is here =
      let stops : ends_runs (slice_index line at) ≡ true = subst (λ (n : ℕ). ends_runs (slice_index line n) ≡ true) here
      (is.stops (omega (arith, below, here))) in
      same ∙ cut_at runs ends_runs line at below stops

  -- a run without an address
  behind_run : (end : ℕ) → IsRunEnd line at end → address_in (slice_range line at end) ≡ None
      → addresses_of (drop from line) ≡ addresses_of (drop end line)
  behind_run end is none =
      same ∙ part_at runs ends_runs line at end is ∙ ap (λ o. cons_option o (addresses_of (drop end line))) none

  -- the same, with the byte after it, if there is one
  pub after_run : (end : ℕ) → IsRunEnd line at end → address_in (slice_range line at end) ≡ None
      → addresses_of (drop from line) ≡ addresses_of (drop (end + 1) line)
  after_run end is none = behind_run end is none ∙ elim (cases_lt end (length line)) [
    | inl below ↦ cut_at runs ends_runs line end below (is.stops below)
    | inr past ↦ at_end runs ends_runs line end past
        ∙ sym (at_end runs ends_runs line (end + 1) (omega (arith, past)))
  ]

  -- a run with an address
  pub at_run : (end : ℕ) (found : Found) → from ≤ at → IsRunEnd line at end → ¬ (end ≡ at)
      → IsPicked (address_in (slice_range line at end)) (slice_range line at end) found
      → IsNextOf addresses_of line from
      (record { address = found.address; start = at + found.start; end = at + found.end; next = end })
  at_run end found low is some picked =
      let fits : found.end ≤ end - at = omega (arith, picked.within, length-take (end - at) (drop at line)) in
      record {
        behind = omega (arith, low);
        text = omega (arith, picked.ordered);
        before_next = omega (arith, fits, is.behind);
        further = omega (arith, low, is.behind, some);
        within = is.within;
        first = same ∙ part_at runs ends_runs line at end is
            ∙ ap (λ o. cons_option o (addresses_of (drop end line))) picked.is
            ∙ ap (λ (t : List ℕ). record { text = t; address = found.address } ∷ addresses_of (drop end line))
            (inner_text line at end found.start found.end picked.ordered fits);
      }

  pub no_more : length line ≤ at → addresses_of (drop from line) ≡ []
  no_more past = same ∙ at_end runs ends_runs line at past
