-- The run after a `/` that begins the rest of a stretch.
use Rattle.line_addresses.proofs.Words.{◌≡◌, ℕ, ◌+◌, ◌-◌, ◌<◌, ◌≤◌, Bool, true, false, not, List, [], ◌∷◌, ◌++◌, append_assoc, length, length-take, drop, get_or, Option, None, Some, refl, sym, ap, subst, ◌∙◌, arith, true≢false, ◌||◌, slice_index, All, cons_option, slice_range, eqb-true, drop_more, All-nil, All-cons, All-append, drop_split, Spelled, address_in, addresses_of, IsNextOf, IsPicked, is_run_byte, is_slash, networks_in, networks_of, IsRunEnd, Found}
use Rattle.line_addresses.proofs.LineParts.{BeginsWithCut, begins, inside, behind_cut, part_first}
use Rattle.line_addresses.proofs.NextNetworks.{addresses_left, ends_stretch, nothing_in, stretches}
use Rattle.line_addresses.proofs.NextRuns.{ends_runs, inner_text, runs}
use Rattle.line_addresses.proofs.Shown.{nothing_shown}
use Rattle.line_addresses.proofs.StretchNetworks.{none_without, slash_first, slash_left}

-- a text is split at its first byte that is not a stretch byte
record Cut (text : List ℕ) : Type 0 where
  part : List ℕ
  rest : List ℕ
  same : text ≡ part ++ rest
  whole : All (λ x. ends_stretch x ≡ false) part
  cuts : BeginsWithCut ends_stretch rest

cut : (text : List ℕ) → Cut text
cut [] = record { part = []; rest = []; same = refl; whole = All-nil (λ x. ends_stretch x ≡ false); cuts = tt }
cut (byte ∷ bytes) = at (ends_stretch byte) refl (cut bytes)
  where
    at : (b : Bool) → ends_stretch byte ≡ b → Cut bytes → Cut (byte ∷ bytes)
    at true is later =
        record { part = []; rest = byte ∷ bytes; same = refl; whole = All-nil (λ x. ends_stretch x ≡ false); cuts = is }
    at false is later =
        record {
          part = byte ∷ later.part;
          rest = later.rest;
          same = ap (λ l. byte ∷ l) later.same;
          whole =
              All-cons (λ x. ends_stretch x ≡ false) byte later.part is later.whole;
          cuts = later.cuts;
        }

-- a stretch whose first byte is not a run byte has only addresses
addresses_alone : (stretch : List ℕ) → All (λ x. ends_stretch x ≡ false) stretch → BeginsWithCut ends_runs stretch
    → networks_in stretch ≡ addresses_of stretch
addresses_alone [] whole other = nothing_in ∙ sym (ap (λ o. cons_option o []) nothing_shown)
addresses_alone (byte ∷ bytes) whole other =
    addresses_left (byte ∷ bytes)
    (none_without (byte ∷ bytes) (slash_first byte bytes (slash_left byte (whole 0 0 (omega arith)) other)))

-- the first byte of a part that begins the rest is the first byte of the rest
part_begins : (part rest : List ℕ) → BeginsWithCut ends_runs (part ++ rest) → BeginsWithCut ends_runs part
part_begins [] rest is = tt
part_begins (byte ∷ bytes) rest is = is

joined : (found : Option Spelled) (xs ys : List Spelled) → cons_option found xs ++ ys ≡ cons_option found (xs ++ ys)
joined None xs ys = refl
joined (Some one) xs ys = refl

stretch_run : (byte : ℕ) → ends_runs byte ≡ false → ends_stretch byte ≡ false
stretch_run byte is = either (is_run_byte byte) (is_slash byte) is
  where
    either : (a b : Bool) → not a ≡ false → not (a || b) ≡ false
    either true b e = refl
    either false b e = absurd (true≢false e)

slash_stretch : (byte : ℕ) → is_slash byte ≡ true → ends_stretch byte ≡ false
slash_stretch byte is = either (is_run_byte byte) (is_slash byte) is
  where
    either : (a b : Bool) → b ≡ true → not (a || b) ≡ false
    either true b e = refl
    either false true e = refl
    either false false e = absurd (true≢false (sym e))

slash_ends : (byte : ℕ) → is_slash byte ≡ true → ends_runs byte ≡ true
slash_ends byte is = subst (λ (b : ℕ). ends_runs b ≡ true) (sym (eqb-true byte 47 is)) refl

-- the address of a run after a `/`, and what follows it
behind_slash : (byte : ℕ) (run rest : List ℕ) → is_slash byte ≡ true → All (λ x. ends_runs x ≡ false) run
    → BeginsWithCut ends_runs rest
    → networks_of (byte ∷ run ++ rest) ≡ cons_option (address_in run) (networks_of rest)
behind_slash byte run rest is whole other =
    let c = cut rest in
    let first : BeginsWithCut ends_runs c.part =
    part_begins c.part c.rest (subst (BeginsWithCut ends_runs) c.same other) in
    let in_stretch : All (λ x. ends_stretch x ≡ false) run =
    λ k d below. stretch_run (get_or run k d) (whole k d below) in
    let stretch : List ℕ = byte ∷ run ++ c.part in
    let all_in : All (λ x. ends_stretch x ≡ false) stretch = All-cons (λ x. ends_stretch x ≡ false) byte (run ++ c.part)
    (slash_stretch byte is) (All-append (λ x. ends_stretch x ≡ false) run c.part in_stretch c.whole) in
    let of_rest : networks_of rest ≡ addresses_of c.part ++ networks_of c.rest =
    ap networks_of c.same ∙ part_first stretches ends_stretch c.part c.rest c.whole c.cuts
    ∙ ap (λ l. l ++ networks_of c.rest) (addresses_alone c.part c.whole first) in
    ap (λ l. networks_of (byte ∷ run ++ l)) c.same
    ∙ ap (λ l. networks_of (byte ∷ l)) (sym (append_assoc run c.part c.rest))
    ∙ part_first stretches ends_stretch stretch c.rest all_in c.cuts
    ∙ ap (λ l. l ++ networks_of c.rest) (addresses_alone stretch all_in (slash_ends byte is) ∙ behind_cut runs ends_runs
    byte (run ++ c.part) (slash_ends byte is) ∙ part_first runs ends_runs run c.part whole first)
    ∙ joined (address_in run) (addresses_of c.part) (networks_of c.rest)
    ∙ ap (cons_option (address_in run)) (sym of_rest)

module _ (line : List ℕ) (from at end : ℕ) (same : networks_of (drop from line) ≡ networks_of (drop at line))
    (below : at < length line) (is : slice_index line at ≡ 47) (run : IsRunEnd line (at + 1) end) where
  after_slash : networks_of (drop at line) ≡ cons_option (address_in (slice_range line (at + 1) end))
      (networks_of (drop end line))
  after_slash =
      ap networks_of (drop_more line at 0 below
      ∙ ap (λ l. get_or line at 0 ∷ l) (drop_split line (at + 1) end run.behind))
      ∙ behind_slash (get_or line at 0) (slice_range line (at + 1) end) (drop end line) (ap is_slash is)
      (inside ends_runs line (at + 1) end run) (begins ends_runs line (at + 1) end run)

  pub slash_passed : address_in (slice_range line (at + 1) end) ≡ None
      → networks_of (drop from line) ≡ networks_of (drop end line)
  slash_passed none = same ∙ after_slash ∙ ap (λ o. cons_option o (networks_of (drop end line))) none

  pub at_slash_run : (found : Found) → from ≤ at
      → IsPicked (address_in (slice_range line (at + 1) end)) (slice_range line (at + 1) end) found
      → IsNextOf networks_of line from
      (record { address = found.address; start = at + 1 + found.start; end = at + 1 + found.end; next = end })
  at_slash_run found low picked =
      let fits : found.end ≤ end - (at + 1) =
      omega (arith, picked.within, length-take (end - (at + 1)) (drop (at + 1) line)) in
      record {
        behind = omega (arith, low);
        text = omega (arith, picked.ordered);
        before_next = omega (arith, fits, run.behind);
        further = omega (arith, low, run.behind);
        within = run.within;
        first = same ∙ after_slash ∙ ap (λ o. cons_option o (networks_of (drop end line))) picked.is
            ∙ ap (λ (t : List ℕ). record { text = t; address = found.address } ∷ networks_of (drop end line))
            (inner_text line (at + 1) end found.start found.end picked.ordered fits);
      }
