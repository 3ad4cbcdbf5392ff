-- A list that is read.
use Rattle.lists.proofs.Words.{◌≡◌, ◌<◌, ◌-◌, ◌^◌, [], ℕ, List, Bool, true, false, inl, inr, refl, sym, ap, subst, arith, length, append-nil, length-append, Option, None, Some, Result, Ok, Err, OnOk, IfErr, Consumes, lines, RunFault, ReadLists, at_list, TakesLines, TakesBefore, KnownLists, EndsWithFeed, IsCut, ListFault, StopsList, end_of, fails_reading, ReadsFirst, ReadsList, FailsReading, StopsAt, ReadFault}
use Rattle.lines.specs.declared.fault.RunFault.TheVariants as faults
use Rattle.lists.specs.declared.read.ListFault.TheVariants.{Run, Cut}
use Rattle.lists.proofs.FirstLines.{first_taken, first_taken_of_too_many}

-- more bytes were read of a list than 64 bits count, so it has more
many_read : (input read : List ℕ) (rest : Option (List ℕ)) → Consumes (Some input) rest read → 2 ^ 64 - 1 < length read
    → 2 ^ 64 - 1 < length input
many_read input read None h many = absurd h
many_read input read (Some left) h many = omega (arith, many, ap (λ (l : List ℕ). length l) h, length-append read left)

module _ (known : KnownLists) (number : ℕ) (name : List ℕ) (before after : ReadLists) (left rest : Option (List ℕ))
    (opened : known.may_open name true)
    (has : (bytes : List ℕ) → known.bytes_of name ≡ Some bytes → left ≡ Some bytes) where
  -- what was taken before a fault are first lines of the list
  first_of : TakesBefore left rest faults.Read (at_list before number) after → ReadsFirst known number name before after
  first_of h = (
    opened,
    λ input e. first_taken input rest (at_list before number) after
        (subst (λ (l : Option (List ℕ)). TakesBefore l rest faults.Read (at_list before number) after) (has input e) h),
  )

  first_of_too_many : TakesBefore left rest faults.InputTooLong (at_list before number) after
      → ReadsFirst known number name before after
  first_of_too_many h = (
    opened,
    λ input e. first_taken_of_too_many input rest (at_list before number) after (subst
        (λ (l : Option (List ℕ)). TakesBefore l rest faults.InputTooLong (at_list before number) after)
        (has input e) h),
  )

  all_of : ((input : List ℕ) → left ≡ Some input → TakesLines (at_list before number) (lines input) after)
      → ReadsFirst known number name before after
  all_of taken = (opened, λ input f. (lines input, [], sym (append-nil (lines input)), taken input (has input f)))

  too_many : TakesBefore left rest faults.InputTooLong (at_list before number) after → FailsReading known name
  too_many h = inr (λ input e. many_read input h.0 rest
      (subst (λ (l : Option (List ℕ)). Consumes l rest h.0) (has input e) h.2) h.3)

  all_of_cut : IsCut left (at_list before number) after → ReadsFirst known number name before after
  all_of_cut cut = all_of (λ input e. (cut.1 input e).1)

  -- how the reading of the list ended, if it stopped
  one_stopped : (read : Result (Unit {0}) ListFault) (out : Bool) → (fails_reading read ≡ true → known.may_fail name)
      → OnOk read ((input : List ℕ) → left ≡ Some input → TakesLines (at_list before number) (lines input) after)
      → IfErr read (λ fault. StopsList left rest fault (at_list before number) after) → out ≡ after.is_out_of_memory
      → IfErr (end_of read number out) (λ fault. StopsAt known number name before fault after.refused)
  one_stopped (Ok done) false fails taken stopped e = tt
  one_stopped (Ok done) true fails taken stopped e = (after, all_of taken, sym e, refl)
  one_stopped (Err (Run faults.Read)) false fails taken stopped e =
      (refl, inl (fails refl), after, first_of stopped, sym e, refl)
  one_stopped (Err (Run faults.Read)) true fails taken stopped e = (after, first_of stopped, sym e, refl)
  one_stopped (Err (Run faults.InputTooLong)) false fails taken stopped e =
      (refl, too_many stopped, after, first_of_too_many stopped, sym e, refl)
  one_stopped (Err (Run faults.InputTooLong)) true fails taken stopped e =
      (after, first_of_too_many stopped, sym e, refl)
  one_stopped (Err (Run faults.Write)) out fails taken stopped e = absurd stopped
  one_stopped (Err Cut) false fails taken stopped e =
      (refl, opened, stopped.0, λ input f. (stopped.1 input (has input f)).0, after, all_of_cut stopped, sym e, refl)
  one_stopped (Err Cut) true fails taken stopped e = (after, all_of_cut stopped, sym e, refl)

  pub read_stopped : (read : Result (Unit {0}) ListFault) (out : Bool) (result : Result (Unit {0}) ReadFault)
      → result ≡ end_of read number out → (fails_reading read ≡ true → known.may_fail name)
      → OnOk read ((input : List ℕ) → left ≡ Some input → TakesLines (at_list before number) (lines input) after)
      → IfErr read (λ fault. StopsList left rest fault (at_list before number) after) → out ≡ after.is_out_of_memory
      → IfErr result (λ fault. StopsAt known number name before fault after.refused)
  read_stopped read out result ends fails taken stopped e =
      subst (λ (r : Result (Unit {0}) ReadFault). IfErr r (λ fault. StopsAt known number name before fault
      after.refused)) (sym ends) (one_stopped read out fails taken stopped e)

  -- how it ended, if it was read to its end
  one_read : (read : Result (Unit {0}) ListFault) (out : Bool)
      → OnOk read ((input : List ℕ) → left ≡ Some input → TakesLines (at_list before number) (lines input) after)
      → OnOk read (before.rules.is_whole ≡ true → after.is_out_of_memory ≡ false → (input : List ℕ)
      → left ≡ Some input → EndsWithFeed input) → out ≡ after.is_out_of_memory
      → OnOk (end_of read number out) (ReadsList known number name before after)
  one_read (Ok done) false taken whole e =
      (opened, λ input f. taken input (has input f), λ wants input f. whole wants (sym e) input (has input f))
  one_read (Ok done) true taken whole e = tt
  one_read (Err (Run fault)) false taken whole e = tt
  one_read (Err (Run fault)) true taken whole e = tt
  one_read (Err Cut) false taken whole e = tt
  one_read (Err Cut) true taken whole e = tt

  pub read_whole : (read : Result (Unit {0}) ListFault) (out : Bool) (result : Result (Unit {0}) ReadFault)
      → result ≡ end_of read number out
      → OnOk read ((input : List ℕ) → left ≡ Some input → TakesLines (at_list before number) (lines input) after)
      → OnOk read (before.rules.is_whole ≡ true → after.is_out_of_memory ≡ false → (input : List ℕ)
      → left ≡ Some input → EndsWithFeed input) → out ≡ after.is_out_of_memory
      → OnOk result (ReadsList known number name before after)
  read_whole read out result ends taken whole e =
      subst (λ (r : Result (Unit {0}) ReadFault). OnOk r (ReadsList known number name before after)) (sym ends)
      (one_read read out taken whole e)
