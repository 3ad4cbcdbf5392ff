-- How the logs of a run are taken, one after another.
use Rattle.log_programs.proofs.Words.{◌≡◌, ◌∙◌, ◌+◌, ◌<◌, ℕ, suc, Bool, false, List, [], ◌∷◌, ◌++◌, inl, inr, refl, sym, ap, arith, length, map, get_or, take, drop, drop-cons, take-append-drop, true≢false, Option, None, Some, String, string_bytes, map-append, Written, Prints, puts_nothing, puts_more, begins_after_puts, KnownLists, puts_then_all, InTurn, EndsLogs, Finishes, LogsSoFar, StopsLog, TakesLog, Wrote, subst, append-nil, IsTrue, StopsBy, FailsIn, Put, Cuts, is_cut, FailsAt, Err, LogFault, true}
use Rattle.program.specs.declared.log_fault.LogFault.TheVariants as faults
use Rattle.log_programs.proofs.InTurn.{ends_here, goes_more}

module _ {W : Type 0} (old mid new : Written W) (first second : List ℕ) (p : Prints old mid first) where
  pub then_wrote : Wrote mid new second → Wrote old new (first ++ second)
  then_wrote (inl h) = inl (puts_then_all _ _ _ _ _ first second p h)
  then_wrote (inr h) = inr (h.0, begins_after_puts _ _ _ _ _ first second p h.1)

module _ {W : Type 0} (T : Type 0) (old mid new : Written W) (added : List ℕ) where
  handed : Prints old mid added → Wrote mid new [] → Wrote old new added
  handed p h = subst (λ (t : List ℕ). Wrote old new t) (append-nil added) (then_wrote old mid new added [] p h)

  -- a log that was not read to its end stops the run
  pub then_stopped : (fault : LogFault) → Put {T = T} (Err fault) old mid added → StopsBy fault mid new
      → Wrote old new added
  then_stopped faults.Read p h = handed p h
  then_stopped faults.Write p h = inr (subst (λ (o : Written W). IsTrue o.failed × FailsIn old o added) (sym h) p)
  then_stopped faults.Address p h = handed p h
  then_stopped faults.Length p h = handed p h
  then_stopped faults.Endless p h = handed p h

  -- why it was cut
  pub log_cut : (known : KnownLists) (name : List ℕ) (remained : Option (List ℕ)) (read_failed : Bool)
      → ((log : List ℕ) → known.bytes_of name ≡ Some log → remained ≡ Some log)
      → (IsTrue read_failed → known.may_fail name) → (fault : LogFault) → Cuts remained read_failed fault
      → Put {T = T} (Err fault) old mid added → StopsBy fault mid new → is_cut {T = T} (Err fault) ≡ true
      → FailsAt known name new
  log_cut known name remained read_failed has fails faults.Read c p h e = inr (inl (fails c))
  log_cut known name remained read_failed has fails faults.Write c p h e =
      inl (subst (λ (o : Written W). IsTrue o.failed) (sym h) p.0)
  log_cut known name remained read_failed has fails faults.Address c p h e = absurd (true≢false (sym e))
  log_cut known name remained read_failed has fails faults.Length c p h e = absurd (true≢false (sym e))
  log_cut known name remained read_failed has fails faults.Endless c p h e = inr (inr (λ log is. c log (has log is)))

module _ {S W : Type 0} (is_full : S → Bool) (Gives : Bool → S → List ℕ → List ℕ → Option S → Type 0) (start : S)
    (all : List (List ℕ)) (old : Written W) where
  pub logs_begin : LogsSoFar is_full Gives start all all old old start
  logs_begin = record { added = []; prints = puts_nothing _ _; goes_on = λ cut text end h. h }

  module _ (mid new : Written W) (name : List ℕ) (names : List (List ℕ)) (state : S)
      (s : LogsSoFar is_full Gives start all (name ∷ names) old mid state) (free : is_full state ≡ false) where
    -- one more log was taken
    pub log_more : (left : S) → TakesLog Gives name mid state new left
        → LogsSoFar is_full Gives start all names old new left
    log_more left t = record {
      added = s.added ++ t.0;
      prints = puts_more _ _ _ _ _ _ s.added t.0 s.prints t.1;
      goes_on = λ cut. goes_more is_full (Gives cut) false start state left all names name s.added t.0 (s.goes_on cut)
          free (t.2 cut);
    }

    -- the log ends the run
    pub log_stops : (status : Option S → ℕ) (known : KnownLists) (before : List (List ℕ)) → all ≡ before ++ name ∷ names
        → status None ≡ 2
        → StopsLog Gives known name mid state new → EndsLogs is_full Gives status start known all old new 2
    log_stops status known before is none t = record {
      cut = t.cut;
      text = s.added ++ t.text;
      end = None;
      gives = s.goes_on t.cut t.text None (ends_here is_full (Gives t.cut) false state name names t.text free t.gives);
      fails = λ e. ((before, name, names, is, t.fails e), refl);
      wrote = elim (then_wrote old mid new s.added t.text s.prints t.wrote)
          [ inl w ↦ inl (w, sym none) | inr w ↦ inr (w.0, w.1, refl) ];
    }

  -- no log more is opened, and what waits is written
  pub logs_end : (mid new : Written W) (names : List (List ℕ)) (state : S)
      → LogsSoFar is_full Gives start all names old mid state
      → InTurn is_full (Gives false) false state names [] (Some state)
      → (status : Option S → ℕ) (known : KnownLists) (result : ℕ)
      → Finishes mid new [] (status (Some state)) result → EndsLogs is_full Gives status start known all old new result
  logs_end mid new names state s h status known result w = record {
    cut = false;
    text = s.added ++ [];
    end = Some state;
    gives = s.goes_on false [] (Some state) h;
    fails = λ e. absurd (true≢false (sym e));
    wrote = elim w [
      | inl w ↦ inl (puts_then_all _ _ _ _ _ s.added [] s.prints w.0, w.1)
      | inr w ↦ inr (w.0, begins_after_puts _ _ _ _ _ s.added [] s.prints w.1, w.2)
    ];
  }

-- ---- the names of logs

module _ {Z : Type 0} (files : List (String Z)) (i : ℕ) (file : String Z) (name : List ℕ) (within : i < length files)
    (is : file ≡ get_or files i file) (same : name ≡ string_bytes file) where
  pub name_next : map string_bytes (drop i files) ≡ name ∷ map string_bytes (drop (i + 1) files)
  name_next =
      let next : suc i ≡ i + 1 = omega arith in
      ap (map string_bytes) (drop-cons files i file within ∙ ap (λ f. f ∷ drop (suc i) files) (sym is)
      ∙ ap (λ n. file ∷ drop n files) next)
      ∙ ap (λ (n : List ℕ). n ∷ map string_bytes (drop (i + 1) files)) (sym same)

  pub name_within : map string_bytes files ≡ map string_bytes (take i files) ++ name ∷ map string_bytes
      (drop (i + 1) files)
  name_within =
      ap (map string_bytes) (sym (take-append-drop i files)) ∙ map-append string_bytes (take i files) (drop i files)
      ∙ ap (λ (n : List (List ℕ)). map string_bytes (take i files) ++ n) name_next
