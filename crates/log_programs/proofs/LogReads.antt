-- How the lines of a log are read in turn.
use Rattle.log_programs.proofs.Words.{◌≡◌, ◌∙◌, ◌≤◌, ◌<◌, ℕ, Bool, true, false, List, [], ◌∷◌, ◌++◌, inl, refl, sym, ap, subst, arith, length, length-append, append_assoc, append-nil, Option, None, Some, Result, Ok, Err, IfErr, Consumes, IsAtEnd, none-some, Written, LineEnd, LogLine, log_lines, content, printed, feed_behind, log_line, OpenLog, HandsFirst, GivesNext, Breaks, line_of, whole_of, LogFault, Line, TooLong, End, known_all, known_first, LongBehind, long_stays, InTurn, GoesOn, Cuts, OfLine, ReadsLog, ReadsSoFar, end_of, is_cut}
use Rattle.program.specs.declared.log_fault.LogFault.TheVariants as faults
use Rattle.log_programs.proofs.InTurn.{cut_here, full_here, ends_here, goes_more}

-- ---- the lines of the whole log, if its bytes are known

same_some : (a b : List ℕ) (o : Option (List ℕ)) → o ≡ Some a → o ≡ Some b → a ≡ b
same_some a b o e f = cc

whole_log : (log : OpenLog) (remained remains : Option (List ℕ)) (first : List LogLine)
    → HandsFirst log remained remains first
    → (bytes : List ℕ) → remained ≡ Some bytes → (others : List LogLine) × (log_lines bytes ≡ first ++ others)
whole_log log None remains first h bytes is = absurd (none-some bytes is)
whole_log log (Some all) None first h bytes is = absurd h.reads
whole_log log (Some all) (Some rest) first h bytes is = (
  log_lines (h.pending ++ rest),
  ap log_lines (same_some bytes all (Some all) is refl ∙ h.reads)
      ∙ h.lines rest h.at_end,
)

-- a line that is too long comes after those
long_next : (log : OpenLog) (remained remains : Option (List ℕ)) (first : List LogLine)
    → GivesNext log remained remains first TooLong → (bytes : List ℕ) → remained ≡ Some bytes
    → LongBehind first (log_lines bytes)
long_next log None remains first h bytes is = absurd (none-some bytes is)
long_next log (Some all) None first h bytes is = absurd h.next.reads
long_next log (Some all) (Some rest) first h bytes is =
    subst (λ (b : List ℕ). LongBehind first (log_lines b)) (sym (same_some bytes all (Some all) is refl ∙ h.next.reads))
    (long_stays h.next.read rest first h.next.others h.line h.next.lines h.next.is_line h.long)

-- all of them were returned
all_lines : (remained remains : Option (List ℕ)) (read : List ℕ) (first : List LogLine) (bytes : List ℕ)
    → Consumes remained remains read → IsAtEnd remains → log_lines read ≡ first → remained ≡ Some bytes
    → log_lines bytes ≡ first ++ []
all_lines remained remains read first bytes reads ends are is =
    sym (ap log_lines (known_all remained remains read bytes is reads ends)) ∙ are ∙ sym (append-nil first)

-- it has more bytes than were read
longer : (remained remains : Option (List ℕ)) (read bytes : List ℕ) → Consumes remained remains read
    → remained ≡ Some bytes → length read ≤ length bytes
longer remained remains read bytes reads is =
    let b = known_first remained remains read bytes is reads in
    omega (arith, ap length b.1, length-append read b.0)

-- ---- what the lines give

module _ {S X : Type 0} (is_full : S → Bool) (Of : S → List ℕ → List ℕ → List X → Option S → Type 0) (start : S)
    (remained : Option (List ℕ)) where
  pub reads_nothing : (log : OpenLog) → HandsFirst log remained remained []
      → ReadsSoFar is_full Of start log remained remained [] start
  reads_nothing log hands = record { first = []; hands = hands; goes_on = λ cut lines given end h. h }

  module _ (was now : OpenLog) (before after : Option (List ℕ)) (added : List X) (state : S)
      (s : ReadsSoFar is_full Of start was remained before added state) (read_failed : Bool) where
    -- what the lines to come give
    abbrev Come : Bool → List LogLine → List X → Option S → Type 0
    Come cut lines given end = InTurn is_full (OfLine Of) cut state lines given end

    abbrev Ended : {T : Type 0} → Result T LogFault → List X → S → Type 0
    Ended {T} result given left = ReadsLog is_full Of start result remained read_failed (added ++ given) left

    -- the reading ends here, if they end it so
    ended : {T : Type 0} (result : Result T LogFault) (given : List X) (left : S)
        → IfErr result (Cuts remained read_failed)
        → ((cut : Bool) (bytes : List ℕ) → remained ≡ Some bytes → (is_cut result ≡ true → cut ≡ true)
        → (lines : List LogLine) × (log_lines bytes ≡ s.first ++ lines) × Come cut lines given (end_of result left))
        → Ended result given left
    ended result given left cuts come = record {
      cuts = cuts;
      gives = λ cut bytes is so.
          let rest = come cut bytes is so in
          subst (λ (l : List LogLine). InTurn is_full (OfLine Of) cut start l (added ++ given) (end_of result left))
          (sym rest.1)
          (s.goes_on cut rest.0 given (end_of result left) rest.2);
    }

    -- at the end of the log
    pub reads_all : {T : Type 0} (done : T) → GivesNext now remained after s.first End → Ended (Ok done) [] state
    reads_all done given =
        ended (Ok done) [] state tt (λ cut bytes is so. (
          [],
          all_lines remained after given.0 s.first bytes given.1 given.2 given.3 is,
          full_end cut,
        )) where
          full_end : (cut : Bool) → Come cut [] [] (Some state)
          full_end cut = inl (refl, refl)

    -- in a state that is full
    pub reads_enough : {T : Type 0} (done : T) → is_full state ≡ true → Ended (Ok done) [] state
    reads_enough done full =
        ended (Ok done) [] state tt (λ cut bytes is so.
        let whole = whole_log was remained before s.first s.hands bytes is in
        (whole.0, whole.1, full_here is_full (OfLine Of) cut state whole.0 full))

    -- where a device failed
    pub reads_cut : {T : Type 0} (fault : LogFault) (left : S) → is_cut {T = T} (Err fault) ≡ true
        → Cuts remained read_failed fault
        → Ended {T = T} (Err fault) [] left
    reads_cut fault left cuts why =
        ended (Err fault) [] left why (λ cut bytes is so.
        let whole = whole_log was remained before s.first s.hands bytes is in
        (whole.0, whole.1, cut_here is_full (OfLine Of) cut state whole.0 (so cuts)))

    pub reads_break : {T W : Type 0} (old new : Written W) (fault : LogFault) (left : S)
        → Breaks remained after read_failed old new s.first fault → Ended {T = T} (Err fault) [] left
    reads_break old new faults.Read left h = reads_cut faults.Read left refl h.0
    reads_break old new faults.Write left h = reads_cut faults.Write left refl tt
    reads_break old new faults.Address left h = absurd h
    reads_break old new faults.Length left h = absurd h
    reads_break old new faults.Endless left h =
        reads_cut faults.Endless left refl (λ bytes is.
        let l = longer remained after (h.1 ++ h.2) bytes h.3 is in let m = h.4 in omega (arith, l, m))

    -- ---- a line

    module _ (end : LineEnd) (line whole : List ℕ) (given : GivesNext now remained after s.first (Line end))
        (is : line ≡ line_of now) (all : whole ≡ whole_of now) (free : is_full state ≡ false) where
      abbrev next : LogLine
      next = log_line (line_of now) end

      of_next : (text : List X) (left : Option S) → Of state line (whole ++ feed_behind end) text left
          → OfLine Of state next text left
      of_next text left h =
          subst (λ (l : List ℕ). Of state l (printed next) text left) (is ∙ sym given.is_content)
          (subst (λ (t : List ℕ). Of state line t text left) (ap (λ l. l ++ feed_behind end) all ∙ sym given.is_printed)
          h)

      behind : (bytes : List ℕ) → remained ≡ Some bytes → (lines : List LogLine)
          × (log_lines bytes ≡ s.first ++ next ∷ lines)
      behind bytes known =
          let rest = whole_log now remained after (s.first ++ next ∷ []) given.hands bytes known in
          (rest.0, rest.1 ∙ append_assoc s.first (next ∷ []) rest.0)

      pub reads_line : (text : List X) (left : S) → Of state line (whole ++ feed_behind end) text (Some left)
          → ReadsSoFar is_full Of start now remained after (added ++ text) left
      reads_line text left h = record {
        first = s.first ++ next ∷ [];
        hands = given.hands;
        goes_on = λ cut lines.
            subst (λ (l : List LogLine). GoesOn is_full (OfLine Of) cut start l (added ++ text) left lines)
            (sym (append_assoc s.first (next ∷ []) lines))
            (goes_more is_full (OfLine Of) cut start state left (s.first ++ next ∷ lines) lines next added text
            (s.goes_on cut (next ∷ lines)) free (of_next text (Some left) h));
      }

      -- what the line gives cannot be written
      pub reads_unwritten : {T : Type 0} (text : List X) (next_state left : S)
          → Of state line (whole ++ feed_behind end) text (Some next_state) → Ended {T = T} (Err faults.Write) text left
      reads_unwritten text next_state left h =
          let so_far = reads_line text next_state h in
          record {
            cuts = tt;
            gives = λ cut bytes known so.
                let rest = whole_log now remained after so_far.first so_far.hands bytes known in
                subst (λ (l : List LogLine). InTurn is_full (OfLine Of) cut start l (added ++ text) None) (sym rest.1)
                (subst (λ (t : List X). InTurn is_full (OfLine Of) cut start (so_far.first ++ rest.0) t None)
                (append-nil (added ++ text))
                (so_far.goes_on cut rest.0 [] None (cut_here is_full (OfLine Of) cut next_state rest.0 (so refl))));
          }

      -- the line ends the run
      pub reads_last : {T : Type 0} (fault : LogFault) (text : List X) (left : S)
          → IfErr {T = T} (Err fault) (Cuts remained read_failed)
          → Of state line (whole ++ feed_behind end) text None → Ended {T = T} (Err fault) text left
      reads_last fault text left why h =
          ended (Err fault) text left why (λ cut bytes known so.
          let rest = behind bytes known in
          (next ∷ rest.0, rest.1, ends_here is_full (OfLine Of) cut state next rest.0 text free (of_next text None h)))

    -- ---- a line that is too long

    module _ (given : GivesNext now remained after s.first TooLong) (free : is_full state ≡ false) where
      pub reads_long : now.hurries ≡ false → (text : List X) (left : S)
          → ((line : LogLine) → 1048576 < length (content line) → OfLine Of state line text (Some left))
          → ReadsSoFar is_full Of start now remained after (added ++ text) left
      reads_long waits text left h = record {
        first = s.first ++ given.line ∷ [];
        hands = given.hands waits;
        goes_on = λ cut lines.
            subst (λ (l : List LogLine). GoesOn is_full (OfLine Of) cut start l (added ++ text) left lines)
            (sym (append_assoc s.first (given.line ∷ []) lines))
            (goes_more is_full (OfLine Of) cut start state left (s.first ++ given.line ∷ lines) lines given.line added
            text
            (s.goes_on cut (given.line ∷ lines)) free (h given.line given.long));
      }

      pub reads_last_long : {T : Type 0} (fault : LogFault) (text : List X) (left : S)
          → IfErr {T = T} (Err fault) (Cuts remained read_failed)
          → ((line : LogLine) → 1048576 < length (content line) → OfLine Of state line text None)
          → Ended {T = T} (Err fault) text left
      reads_last_long fault text left why h =
          ended (Err fault) text left why (λ cut bytes known so.
          let next = long_next now remained after s.first given bytes known in
          (next.0 ∷ next.1, next.2, ends_here is_full (OfLine Of) cut state next.0 next.1 text free (h next.0 next.3)))
