-- How the lines of lists are taken one after another.
use Rattle.cidr_join.proofs.Words.{◌≡◌, ◌∙◌, ℕ, ◌+◌, ◌-◌, ◌==◌, Bool, true, false, List, [], ◌∷◌, ◌++◌, length, take, drop, refl, inl, inr, sym, ap, subst, append_assoc, None, Some, Result, Ok, Err, OnOk, IfErr, if◌then◌else◌, slice_split, take_rest, none-some, IsAbsent, IsNext, parts_from, part_from, Keeps, TakesLine, Takes, EndsLines, GoesOn, LineFails, left_out, Cause, ListRules, TakeFault, Networks, RouteFault}
use Rattle.cidr_join.specs.declared.routes.RouteFault.TheVariants as routes

-- ---- a line

skips_if : (skips : Bool) (why cause : Cause) → (if skips then Some why else None) ≡ Some cause → skips ≡ true
skips_if true why cause e = refl
skips_if false why cause e = absurd (none-some cause e)

stays_if : (skips : Bool) (why : Cause) → (if skips then Some why else None) ≡ None → skips ≡ false
stays_if true why e = absurd (none-some why (sym e))
stays_if false why e = refl

module _ (rules : ListRules) (before after : Networks) (line : List ℕ) where
  pub line_taken : TakesLine rules before line after → GoesOn rules before after (line ∷ [])
  line_taken takes others end h = inl (after, takes, h)

  -- it is refused and left out
  pub line_left : (fault : RouteFault) (cause : Cause) → left_out rules fault ≡ Some cause
      → LineFails rules before line fault
      → Keeps before after fault → GoesOn rules before after (line ∷ [])
  line_left routes.OutOfMemory cause is fails kept = absurd (none-some cause is)
  line_left (routes.Refused why) cause is fails kept = λ others end h.
      inr (
        why,
        fails,
        inl
            (skips_if rules.skips why cause is, subst (λ (n : Networks). Takes rules n others end) kept h),
      )

  -- it is refused and ends the run, or memory ran out
  pub line_ends : (fault : RouteFault) → left_out rules fault ≡ None → LineFails rules before line fault
      → EndsLines rules before (line ∷ []) fault
  line_ends routes.OutOfMemory is fails = tt
  line_ends (routes.Refused why) is fails = λ others. inr (why, fails, inr (stays_if rules.skips why is, refl))

-- ---- lines, in turn

module _ (rules : ListRules) (before between : Networks) (first more : List (List ℕ))
    (goes : GoesOn rules before between first) where
  pub goes_both : (after : Networks) → GoesOn rules between after more → GoesOn rules before after (first ++ more)
  goes_both after on others end h =
      subst (λ (l : List (List ℕ)). Takes rules before l end) (sym (append_assoc first more others))
      (goes (more ++ others) end (on others end h))

  pub ends_behind : (fault : RouteFault) → EndsLines rules between more fault
      → EndsLines rules before (first ++ more) fault
  ends_behind routes.OutOfMemory h = tt
  ends_behind (routes.Refused why) h = λ others.
      subst (λ (l : List (List ℕ)). Takes rules before l None) (sym (append_assoc first more others))
      (goes (more ++ others) None (h others))

-- those after lines that end the run are not taken
pub ends_first : (rules : ListRules) (before : Networks) (first more : List (List ℕ)) (fault : RouteFault)
    → EndsLines rules before first fault
    → EndsLines rules before (first ++ more) fault
ends_first rules before first more routes.OutOfMemory h = tt
ends_first rules before first more (routes.Refused why) h = λ others.
    subst (λ (l : List (List ℕ)). Takes rules before l None) (sym (append_assoc first more others)) (h (more ++ others))

abbrev pub parts : List ℕ → List (List ℕ)
parts text = slice_split (λ b. b == 10) text

-- the lines up to a position were taken
abbrev pub Taken : ListRules → List ℕ → ℕ → Networks → Networks → Type 0
Taken rules text at was now = (first : List (List ℕ)) × (parts text ≡ first ++ parts (drop at text)) × GoesOn rules was
    now first

module _ (rules : ListRules) (text : List ℕ) (at : ℕ) (was networks : Networks)
    (taken : Taken rules text at was networks) where
  -- a line that ends at a line feed
  module _ (end : ℕ) (next : IsNext 10 text at end) where
    cut : parts text ≡ (taken.0 ++ take (end - at) (drop at text) ∷ []) ++ parts (drop (end + 1) text)
    cut = taken.1 ∙ ap (λ l. taken.0 ++ l) (parts_from 10 text at end next)
        ∙ sym (append_assoc taken.0 (take (end - at) (drop at text) ∷ []) (parts (drop (end + 1) text)))

    pub line_more : (now : Networks) → GoesOn rules networks now (take (end - at) (drop at text) ∷ [])
        → Taken rules text (end + 1) was now
    line_more now
        on = (
          taken.0 ++ take (end - at) (drop at text) ∷ [],
          cut,
          goes_both rules was networks taken.0
              (take (end - at) (drop at text) ∷ []) taken.2 now on,
        )

    pub line_stops : (fault : RouteFault) → EndsLines rules networks (take (end - at) (drop at text) ∷ []) fault
        → EndsLines rules was (parts text) fault
    line_stops fault h =
        subst (λ (l : List (List ℕ)). EndsLines rules was l fault) (sym cut)
        (ends_first rules was (taken.0 ++ take (end - at) (drop at text) ∷ []) (parts (drop (end + 1) text)) fault
        (ends_behind rules was networks taken.0 (take (end - at) (drop at text) ∷ []) taken.2 fault h))

  -- the last line
  module _ (absent : IsAbsent 10 text at (length text)) where
    last_cut : parts text ≡ taken.0 ++ take (length text - at) (drop at text) ∷ []
    last_cut = taken.1 ∙ ap (λ l. taken.0 ++ l) (part_from 10 text at absent) ∙ ap (λ (l : List ℕ). taken.0 ++ l ∷ [])
        (sym (take_rest text at))

    pub all_taken : {T E : Type 0} (result : Result T E) (now : Networks)
        → OnOk result (GoesOn rules networks now (take (length text - at) (drop at text) ∷ []))
        → OnOk result (GoesOn rules was now (parts text))
    all_taken (Ok done) now on =
        subst (λ (l : List (List ℕ)). GoesOn rules was now l) (sym last_cut)
        (goes_both rules was networks taken.0 (take (length text - at) (drop at text) ∷ []) taken.2 now on)
    all_taken (Err fault) now on = tt

    pub last_stops : {T : Type 0} (result : Result T TakeFault)
        → IfErr result (λ fault. EndsLines rules networks (take (length text - at) (drop at text) ∷ []) fault.fault)
        → IfErr result (λ fault. EndsLines rules was (parts text) fault.fault)
    last_stops (Ok done) h = tt
    last_stops (Err fault) h =
        subst (λ (l : List (List ℕ)). EndsLines rules was l fault.fault) (sym last_cut)
        (ends_behind rules was networks taken.0 (take (length text - at) (drop at text) ∷ []) taken.2 fault.fault h)
