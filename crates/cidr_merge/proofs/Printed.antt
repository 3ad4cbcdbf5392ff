-- Things that are printed, one after the other.
use Rattle.cidr_merge.proofs.Words.{◌≡◌, ◌||◌, ℕ, Bool, true, false, List, [], ◌∷◌, ◌++◌, refl, sym, ap, ◌∙◌, subst, append_assoc, append-nil, flat_map, flat_map-append, Result, Ok, is_err, FailsIn, Prints, Written, puts_nothing, puts_more, fails_first, puts_it, puts_two, works_still, PutsOrFails}
use Rattle.cidr_merge.proofs.Merging.{shorter}

-- the items before those that are left were printed, and no write failed
pub record Printed {X W : Type 0} (line : X → List ℕ) (all left : List X) (old now : Written W)
    : Type 0 where
  pub done : List X
  pub cut : done ++ left ≡ all
  pub prints : Prints old now (flat_map line done)
  pub works : now.failed ≡ old.failed

module _ {X W : Type 0} (line : X → List ℕ) (all left : List X) (old : Written W) where
  pub none_printed : left ≡ all → Printed line all left old old
  none_printed e =
      record { done = []; cut = e; prints = puts_nothing old.holds old.waits; works = refl }

  -- one more item was printed
  pub printed_more : (mid new : Written W) (after : List X) (x : X) → Printed line all left old mid
      → left ≡ x ∷ after → Prints mid new (line x) → new.failed ≡ (mid.failed || false)
      → Printed line all after old new
  printed_more mid new after x h e p f = record {
    done = h.done ++ x ∷ [];
    cut = append_assoc h.done (x ∷ []) after ∙ ap (λ xs. h.done ++ xs) (sym e) ∙ h.cut;
    prints = subst (Prints old new) (sym (flat_map-append line h.done (x ∷ [])
        ∙ ap (λ t. flat_map line h.done ++ t) (append-nil (line x))))
        (puts_more old.holds mid.holds new.holds old.waits mid.waits new.waits
        (flat_map line h.done) (line x) h.prints p);
    works = still mid.failed new.failed h.works f;
  } where
    still : (before after : Bool) → before ≡ old.failed → after ≡ (before || false)
        → after ≡ old.failed
    still false after e f = f ∙ e
    still true after e f = f ∙ e

  -- all items were printed
  pub all_printed : {T E : Type 0} (x : T) (now : Written W) → Printed line all left old now → left ≡ []
      → PutsOrFails {T = T} {E = E} (Ok x) old now (flat_map line all)
  all_printed x now h e = record {
    ok = subst (λ xs. Prints old now (flat_map line xs))
        (sym (append-nil h.done) ∙ ap (λ xs. h.done ++ xs) (sym e) ∙ h.cut) h.prints;
    failed = works_still now.failed old.failed h.works;
    beginning = tt;
  }

  -- the writer failed at an item
  pub fails_at : {T E : Type 0} (result : Result T E) (mid new : Written W) (after : List X) (x : X)
      → is_err result ≡ true → Printed line all left old mid → left ≡ x ∷ after → new.failed ≡ (mid.failed || true)
      → FailsIn mid new (line x) → PutsOrFails result old new (flat_map line all)
  fails_at result mid new after x is h e fails begins =
      puts_it result old new (flat_map line h.done ++ (line x ++ flat_map line after)) (flat_map line all)
      (sym (flat_map-append line h.done (x ∷ after)) ∙ ap (λ xs. flat_map line (h.done ++ xs)) (sym e)
      ∙ ap (flat_map line) h.cut)
      (puts_two result old mid new (flat_map line h.done) (line x ++ flat_map line after) h.prints
      (works_still mid.failed old.failed h.works)
      (fails_first result mid new (line x) (flat_map line after) is fails begins))

-- what a loop that prints needs
pub ruleset printing = (none_printed, all_printed, shorter)
