-- What is given in turn.
use Rattle.log_programs.proofs.Words.{◌≡◌, Bool, true, false, List, [], ◌∷◌, ◌++◌, inl, inr, refl, sym, subst, append_assoc, append-nil, Option, None, Some, InTurn, GoesOn}

module _ {S I X : Type 0} (is_full : S → Bool) (Gives : S → I → List X → Option S → Type 0) (cut : Bool) where
  -- a device failed
  pub cut_here : (state : S) (items : List I) → cut ≡ true → InTurn is_full Gives cut state items [] None
  cut_here state [] e = inr (e, (refl, refl))
  cut_here state (item ∷ items) e = inr (inl (e, (refl, refl)))

  -- no item more is looked at
  pub full_here : (state : S) (items : List I) → is_full state ≡ true
      → InTurn is_full Gives cut state items [] (Some state)
  full_here state [] e = inl (refl, refl)
  full_here state (item ∷ items) e = inl (e, (refl, refl))

  -- the next item ends the run
  pub ends_here : (state : S) (item : I) (items : List I) (given : List X) → is_full state ≡ false
      → Gives state item given None → InTurn is_full Gives cut state (item ∷ items) given None
  ends_here state item items given free h = inr (inr (free, given, [], None, h, sym (append-nil given), (refl, refl)))

  -- after one item more
  pub goes_more : (start state next : S) (all items : List I) (item : I) (added given : List X)
      → GoesOn is_full Gives cut start all added state (item ∷ items) → is_full state ≡ false
      → Gives state item given (Some next) → GoesOn is_full Gives cut start all (added ++ given) next items
  goes_more start state next all items item added given goes free h others end more =
      subst (λ (t : List X). InTurn is_full Gives cut start all t end) (sym (append_assoc added given others))
      (goes (given ++ others) end (inr (inr (free, given, others, Some next, h, refl, more))))
