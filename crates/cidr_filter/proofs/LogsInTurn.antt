-- How a log is filtered, by its name.
use Rattle.cidr_filter.proofs.Words.{◌≡◌, ℕ, Bool, true, false, List, [], ◌++◌, inl, inr, refl, sym, true≢false, Option, None, Some, IsTrue, Result, Ok, Err, is_ok, Written, Prints, FailsIn, puts_nothing, puts_more, begins_after_puts, KnownLists, StopsBy, LogFault, failed_now, PutsOrFails, PrintsLog, is_cut, StopsLog, TakesLog, FiltersLine, fresh, is_count, is_full, FiltersLog, both, count_line, filter_for, label_of, missing, outcome_of, Filter, Reached, Tally, Outcome, then_stopped, log_cut}
use Rattle.program.specs.declared.log_fault.LogFault.TheVariants as faults

-- what was put, or not
module _ {W T E : Type 0} (old new : Written W) (text : List ℕ) where
  pub put_ok : (result : Result T E) → PutsOrFails result old new text → is_ok result ≡ true → Prints old new text
  put_ok (Ok done) h e = h.ok
  put_ok (Err fault) h e = absurd (true≢false (sym e))

  pub put_not : (result : Result T E) → PutsOrFails result old new text → is_ok result ≡ false → IsTrue new.failed
      × FailsIn old new text
  put_not (Ok done) h e = absurd (true≢false e)
  put_not (Err fault) h e = (failed_now new.failed old.failed h.failed, h.beginning)

-- ---- one log

module _ (filter : Filter) (known : KnownLists) (name : List ℕ) (total : Outcome) where
  -- it was not opened
  pub name_missed : {W : Type 0} (old : Written W) → known.may_open name false
      → TakesLog (FiltersLog filter known) name old total old (both total missing)
  name_missed old closed = ([], puts_nothing _ _, λ cut. inl (closed, refl, refl))

  module _ {W : Type 0} (remained : Option (List ℕ)) (has : (log : List ℕ) → known.bytes_of name ≡ Some log
      → remained ≡ Some log)
      (opened : known.may_open name true) (read_failed : Bool) (old mid new : Written W) (tally : Tally) where
    -- the log was filtered, and this put
    abbrev pub Filtered : Result Reached LogFault → Type 0
    Filtered result = PrintsLog (is_full (filter_for filter name)) (FiltersLine (filter_for filter name)) fresh result
        remained
        read_failed old mid tally

    abbrev number : List ℕ
    number = count_line (is_count filter.shows) filter.nul (label_of filter.named name) tally.selected

    -- the number of its selected lines was written, or not
    pub name_filtered : (done : Reached) → Filtered (Ok done) → Prints mid new number
        → TakesLog (FiltersLog filter known) name old total new (both total (outcome_of filter tally))
    name_filtered done f p = (
      f.added ++ number,
      puts_more _ _ _ _ _ _ f.added number f.put p,
      λ cut. inr (
        opened,
        f.added,
        Some tally,
        (λ log e. f.reads.gives cut log (has log e) (λ not. absurd (true≢false (sym not)))),
        (refl, inl refl),
      ),
    )

    pub count_failed : (done : Reached) → Filtered (Ok done) → IsTrue new.failed → FailsIn mid new number
        → StopsLog (FiltersLog filter known) known name old total new
    count_failed done f failed p = record {
      cut = true;
      text = f.added ++ number;
      gives = inr (
        opened,
        f.added,
        Some tally,
        (λ log e. f.reads.gives true log (has log e) (λ not. refl)),
        (refl, inr (refl, refl)),
      );
      wrote = inr (failed, begins_after_puts _ _ _ _ _ f.added number f.put p);
      fails = λ e. inl failed;
    }

    module _ (fails : IsTrue read_failed → known.may_fail name) where
      -- it ends the run
      pub name_stops : (fault : LogFault) → Filtered (Err fault)
          → StopsBy fault mid new
          → StopsLog (FiltersLog filter known) known name old total new
      name_stops fault f h = record {
        cut = is_cut {T = Reached} (Err fault);
        text = f.added;
        gives = inr (
          opened,
          f.added,
          None,
          (λ log e. f.reads.gives (is_cut {T = Reached} (Err fault)) log (has log e) (λ is. is)),
          (refl, refl),
        );
        wrote = then_stopped Reached old mid new f.added fault f.put h;
        fails = log_cut Reached old mid new f.added known name remained read_failed has fails fault
            f.reads.cuts f.put h;
      }
