-- How logs are read one after another.
use Rattle.cidr_join.proofs.Words.{◌≡◌, ◌||◌, ℕ, Bool, true, false, List, [], inl, inr, refl, sym, ap, true≢false, Option, None, Some, IpNetwork, IsTrue, Ok, Err, Written, KnownLists, Cuts, PrintsLog, ReadsLog, is_cut, nothing, StopsLog, is_missed, LogStats, StopsBy, LogFault, GivesLine, counted_in, never, shown_in, GivesOne, CountsLog, FailsReading, StopsCounting, TellsUncounted, Counts, Found, Join, then_stopped, log_cut}
use Rattle.program.specs.declared.log_fault.LogFault.TheVariants as faults

-- ---- one log

module _ (join : Join) (known : KnownLists) (name : List ℕ) where
  -- it was not opened
  pub not_opened : {A : Type 0} (of : Join → Option IpNetwork → Found → List ℕ → List ℕ → List A)
      → known.may_open name false → (cut missed : Bool)
      → GivesOne of join known cut missed name [] (Some (missed || true))
  not_opened of closed cut missed = inl (closed, refl, refl)

  module _ (remained : Option (List ℕ)) (has : (log : List ℕ) → known.bytes_of name ≡ Some log → remained ≡ Some log)
      (opened : known.may_open name true)
      (read_failed : Bool) where
    -- it was read to its end
    pub read_all : {A T : Type 0} (of : Join → Option IpNetwork → Found → List ℕ → List ℕ → List A)
        (done : T) (all : List A) (seen : LogStats)
        → ReadsLog {T = T} never (GivesLine of join) nothing (Ok done) remained read_failed all seen → (more : Bool)
        → more ≡ is_missed join.bad seen
        → (cut missed : Bool) → GivesOne of join known cut missed name all (Some (missed || more))
    read_all of done all seen reads more is cut missed =
        inr (
          opened,
          Some seen,
          (λ log e. reads.gives cut log (has log e) (λ t. absurd (true≢false (sym t)))),
          ap
              (λ (b : Bool). Some (missed || b)) is,
        )

    -- it ends the run
    pub one_ends : {A T : Type 0} (of : Join → Option IpNetwork → Found → List ℕ → List ℕ → List A)
        (fault : LogFault) (all : List A) (seen : LogStats)
        → ReadsLog {T = T} never (GivesLine of join) nothing (Err fault) remained read_failed all seen
        → (missed : Bool) → GivesOne of join known (is_cut {T = T} (Err fault)) missed name all None
    one_ends {A} {T} of fault all seen reads missed =
        inr (opened, None, (λ log e. reads.gives (is_cut {T = T} (Err fault)) log (has log e) (λ t. t)), refl)

    module _ (fails : IsTrue read_failed → known.may_fail name) where
      -- it was joined, and ends the run
      pub joining_stops : {T W : Type 0} (old mid new : Written W) (seen : LogStats) (fault : LogFault)
          → PrintsLog {T = T} never (GivesLine shown_in join) nothing (Err fault) remained read_failed old mid seen
          → StopsBy fault mid new → (missed : Bool) → StopsLog (GivesOne shown_in join known) known name old missed new
      joining_stops {T} old mid new seen fault f h missed = record {
        cut = is_cut {T = T} (Err fault);
        text = f.added;
        gives = one_ends {T = T} shown_in fault f.added seen f.reads missed;
        wrote = then_stopped T old mid new f.added fault f.put h;
        fails = log_cut T old mid new f.added known name remained read_failed has fails fault f.reads.cuts f.put h;
      }

      -- it was counted, and ends the run
      reading : (T : Type 0) (fault : LogFault) → Cuts remained read_failed fault → (fault ≡ faults.Write → ⊥)
          → is_cut {T = T} (Err fault) ≡ true
          → FailsReading known name
      reading T faults.Read c not e = inl (fails c)
      reading T faults.Write c not e = absurd (not refl)
      reading T faults.Address c not e = absurd (true≢false (sym e))
      reading T faults.Length c not e = absurd (true≢false (sym e))
      reading T faults.Endless c not e = inr (λ log is. c log (has log is))

      ends_counting : {T E : Type 0} (founds : List Found) (old new : Counts) (seen : LogStats) (fault : LogFault)
          (errors : Written E)
          → CountsLog founds {T = T} (Err fault) join remained read_failed old new seen → (fault ≡ faults.Write → ⊥)
          → StopsCounting join known name errors
      ends_counting {T} founds old new seen fault errors f not =
          inr (
            is_cut {T = T} (Err fault),
            f.marks,
            one_ends {T = T} counted_in fault f.marks seen f.reads,
            reading T fault f.reads.cuts not,
          )

      pub counting_stops : {T E : Type 0} (founds : List Found) (old new : Counts) (seen : LogStats) (fault : LogFault)
          (errors : Written E)
          → CountsLog founds {T = T} (Err fault) join remained read_failed old new seen → TellsUncounted fault errors
          → StopsCounting join known name errors
      counting_stops founds old new seen faults.Write errors f told = inl (told refl)
      counting_stops founds old new seen faults.Read errors f told = ends_counting founds old new seen faults.Read
          errors f (λ is. cc)
      counting_stops founds old new seen faults.Address errors f told = ends_counting founds old new seen faults.Address
          errors f (λ is. cc)
      counting_stops founds old new seen faults.Length errors f told = ends_counting founds old new seen faults.Length
          errors f (λ is. cc)
      counting_stops founds old new seen faults.Endless errors f told = ends_counting founds old new seen faults.Endless
          errors f (λ is. cc)
