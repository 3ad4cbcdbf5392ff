-- The address found in a run: that of its whole text, or of what comes before a mark.
use Rattle.line_addresses.proofs.Words.{◌≡◌, ℕ, ◌+◌, ◌-◌, ◌<◌, ◌≤◌, ◌==◌, Bool, true, false, cond, List, [], ◌∷◌, length, length-drop, take, drop, get_or, Option, None, Some, refl, sym, ap, ◌∙◌, arith, digits, drop_all, take-length, nat_tests, v6_of, gap_below, IsAddressByte, IpAddr, Spelled, address_of, with_text, spelled, ends_with_mark, before_mark, without_mark, before_port, begun_by, behind_word, or_else, address_in, Shows, IsPicked, Found}

-- an empty text names no address
pub nothing_named : address_of [] ≡ None
unfolding address_of v6_of gap_below digits
nothing_named = refl

pub nothing_begun : begun_by [] ≡ None
unfolding begun_by before_port
nothing_begun =
    ap (λ found. or_else (with_text [] found) (or_else (before_mark []) (before_port (without_mark [])))) nothing_named

-- the address of a run is the one that begins it, else the one after a word
pub begins : (run : List ℕ) (found : Found) → IsPicked (begun_by run) run found → IsPicked (address_in run) run found
unfolding address_in
begins run found picked = record {
  ordered = picked.ordered;
  within = picked.within;
  is = ap (λ o. or_else o (begun_by (behind_word run))) picked.is;
}

pub begins_behind : (run : List ℕ) (found : Found) → begun_by run ≡ None
    → IsPicked (begun_by (behind_word run)) run found → IsPicked (address_in run) run found
unfolding address_in
begins_behind run found none picked = record {
  ordered = picked.ordered;
  within = picked.within;
  is = ap (λ o. or_else o (begun_by (behind_word run))) none ∙ picked.is;
}

pub not_begun : (run : List ℕ) → begun_by run ≡ None → address_in run ≡ begun_by (behind_word run)
unfolding address_in
not_begun run none = ap (λ o. or_else o (begun_by (behind_word run))) none

nothing_behind : behind_word [] ≡ []
unfolding behind_word
nothing_behind = refl

pub nothing_shown : address_in [] ≡ None
nothing_shown = not_begun [] nothing_begun ∙ ap begun_by nothing_behind ∙ nothing_begun

pub nothing_in : (run : List ℕ) → length run ≡ 0 → address_in run ≡ None
nothing_in [] e = nothing_shown
nothing_in (byte ∷ run) e = absurd (omega (arith, e))

pub some_from : (n : ℕ) → (n == 0) ≡ false → 0 < n
some_from n e = grind (arith, nat_tests)

pub shown_by_nothing : (run : List ℕ) → length run ≡ 0 → begun_by run ≡ None
shown_by_nothing [] e = nothing_begun
shown_by_nothing (byte ∷ run) e = absurd (omega (arith, e))

-- a run whose first byte occurs in no address text
pub begun_by_other : ((byte : ℕ) (run : List ℕ) → ¬ (IsAddressByte byte) → begun_by (byte ∷ run) ≡ None)
    → (run : List ℕ) → 0 < length run → ¬ (IsAddressByte (get_or run 0 0)) → begun_by run ≡ None
begun_by_other law [] some other = absurd (omega (arith, some))
begun_by_other law (byte ∷ run) some other = law byte run other

-- the address that begins a run, by what the whole run names
by_whole : (run : List ℕ) (found : Option IpAddr) → address_of run ≡ found
    → begun_by run ≡ or_else (with_text run found) (or_else (before_mark run) (before_port (without_mark run)))
unfolding begun_by
by_whole run found is =
    ap (λ o. or_else (with_text run o) (or_else (before_mark run) (before_port (without_mark run)))) is

pub whole : (run : List ℕ) (address : IpAddr) → address_of run ≡ Some address
    → Shows (begun_by run) run address (length run)
whole run address named = record {
  within = omega arith;
  is = by_whole run (Some address) named
      ∙ ap (λ text. Some (record { text = text; address = address })) (sym (take-length run));
}

pub marked : (run : List ℕ) (address : IpAddr) → address_of run ≡ None → ends_with_mark run ≡ true
    → address_of (take (length run - 1) run) ≡ Some address
    → Shows (begun_by run) run address (length run - 1)
marked run address none ends named = record {
  within = omega arith;
  is = by_whole run None none
      ∙ ap (λ b. or_else (cond b (spelled (take (length run - 1) run)) None) (before_port (without_mark run))) ends
      ∙ ap (λ found. or_else (with_text (take (length run - 1) run) found) (before_port (without_mark run))) named;
}

-- what comes before a mark names nothing
pub no_mark : (run : List ℕ) → ends_with_mark run ≡ false → before_mark run ≡ None
no_mark run none = ap (λ b. cond b (spelled (take (length run - 1) run)) None) none

none_if : (b : Bool) (text : List ℕ) → address_of text ≡ None → cond b (spelled text) None ≡ None
none_if true text none = ap (with_text text) none
none_if false text none = refl

pub no_rest : (run : List ℕ) → address_of (take (length run - 1) run) ≡ None → before_mark run ≡ None
no_rest run none = none_if (ends_with_mark run) (take (length run - 1) run) none

pub left : (run : List ℕ) → address_of run ≡ None → before_mark run ≡ None
    → begun_by run ≡ before_port (without_mark run)
left run none unmarked =
    by_whole run None none ∙ ap (λ found. or_else found (before_port (without_mark run))) unmarked

-- the same for a run that ends with a mark, and for one that does not
pub left_unmarked : (run : List ℕ) → address_of run ≡ None → ends_with_mark run ≡ false
    → begun_by run ≡ before_port run
left_unmarked run none unmarked =
    left run none (no_mark run unmarked)
    ∙ ap (λ b. before_port (cond b (take (length run - 1) run) run)) unmarked

pub left_marked : (run : List ℕ) → address_of run ≡ None → ends_with_mark run ≡ true
    → address_of (take (length run - 1) run) ≡ None → begun_by run ≡ before_port (take (length run - 1) run)
left_marked run none ends rest =
    left run none (no_rest run rest) ∙ ap (λ b. before_port (cond b (take (length run - 1) run) run)) ends

-- ---- the position of a text that begins a run, or of one after a word

pub at_start : (one : Option Spelled) (run : List ℕ) (address : IpAddr) (size next : ℕ) → Shows one run address size
    → IsPicked one run (record { address = address; start = 0; end = size; next = next })
at_start one run address size next shows =
    let count : size ≡ size - 0 = omega arith in
    record {
      ordered = omega arith;
      within = shows.within;
      is = shows.is ∙ ap (λ n. Some (record { text = take n run; address = address })) count;
    }

module _ (reads : List ℕ → Option Spelled) (run part : List ℕ) (start : ℕ) (within : start ≤ length run)
    (is : part ≡ drop start run) (rest : drop start run ≡ behind_word run) where
  pub at_rest : (address : IpAddr) (size next : ℕ) → Shows (reads part) part address size
      → IsPicked (reads (behind_word run)) run
      (record { address = address; start = start; end = start + size; next = next })
  at_rest address size next shows =
      let count : size ≡ start + size - start = omega arith in
      let fits : length part ≡ length run - start = ap length is ∙ length-drop start run in
      record {
        ordered = omega arith;
        within = omega (arith, shows.within, fits, within);
        is = ap reads (sym (is ∙ rest)) ∙ shows.is
            ∙ ap (λ (t : List ℕ). Some (record { text = take size t; address = address })) is
            ∙ ap (λ n. Some (record { text = take n (drop start run); address = address })) count;
      }

  pub none_at_rest : reads part ≡ None → reads (behind_word run) ≡ None
  none_at_rest none = ap reads (sym (is ∙ rest)) ∙ none

-- nothing follows a word
pub nothing_at_rest : (run : List ℕ) (start : ℕ) → drop start run ≡ behind_word run → start ≡ length run
    → begun_by (behind_word run) ≡ None
nothing_at_rest run start rest end = ap begun_by (sym rest ∙ drop_all start run (omega (arith, end))) ∙ nothing_begun
