-- Texts that are put, one after the other, and then written.
use Rattle.cidr_merge.proofs.Words.{◌≡◌, ◌||◌, ◌∙◌, ℕ, List, ◌++◌, Bool, false, ap, refl, sym, inl, inr, true, Result, Ok, Err, OnOk, OnErr, is_err, Appends, begins_written, puts_more, AppendsBeginning, FailsIn, Prints, Written, fails_first, puts_two, status_of, PutsOrFails, count_line, sign_of, AreBoth, AreCountLines, AreCountsLeft, AreCounts, IsCount, PutsSome, WritesOrFails, EndsWriting, Operation, Union, Common, Minus, Differ, Sets, First, Second}
use Rattle.std.proofs.Common.{codes, true≢false}
use Rattle.std.specs.Prelude.{◌≢◌}
use Rattle.cidr_merge.proofs.Inspected.{fails_now, written_all}

still : (old mid new : Bool) → mid ≡ (old || false) → new ≡ (mid || false) → new ≡ (old || false)
still true mid new e f = f ∙ ap (λ b. b || false) e
still false mid new e f = f ∙ ap (λ b. b || false) e

-- two texts were put
pub put_two : {W : Type 0} (old mid new : Written W) (first second : List ℕ) → Prints old mid first
    → mid.failed ≡ (old.failed || false) → Prints mid new second → new.failed ≡ (mid.failed || false)
    → Prints old new (first ++ second) × (new.failed ≡ (old.failed || false))
put_two old mid new first second p e q f = (
  puts_more old.holds mid.holds new.holds old.waits mid.waits new.waits first second p q,
  still old.failed mid.failed new.failed e f,
)

module _ {W T E : Type 0} where
  -- a text was put
  pub puts_well : (x : T) (old new : Written W) (text : List ℕ) → Prints old new text
      → new.failed ≡ (old.failed || false)
      → PutsOrFails {T = T} {E = E} (Ok x) old new text
  puts_well x old new text p works = record { ok = p; failed = works; beginning = tt }

  -- the writer failed in it
  pub puts_badly : (result : Result T E) (old new : Written W) (text : List ℕ) → is_err result ≡ true
      → new.failed ≡ (old.failed || true) → FailsIn old new text → PutsOrFails result old new text
  puts_badly (Ok x) old new text is fails h = absurd (true≢false (sym is))
  puts_badly (Err e) old new text is fails h = record { ok = tt; failed = fails; beginning = h }

  -- so it failed in one that begins with it
  pub fails_longer : (result : Result T E) (old new : Written W) (first second : List ℕ) → is_err result ≡ true
      → PutsOrFails result old new first → PutsOrFails result old new (first ++ second)
  fails_longer (Ok x) old new first second is h = absurd (true≢false (sym is))
  fails_longer (Err e) old new first second is h = fails_first (Err e) old new first second refl h.failed h.beginning

  -- a text of IPv4 and one of IPv6, of which the first was put
  pub puts_both : (result : Result T E) (old mid new : Written W) (P Q : List ℕ → Type 0) (first second : List ℕ)
      → P first → Q second → Prints old mid first → mid.failed ≡ (old.failed || false)
      → PutsOrFails result mid new second → PutsSome result (AreBoth P Q) old new
  puts_both result old mid new P Q first second p q prints works h =
      (first ++ second, (first, second, p, q, refl), puts_two result old mid new first second prints works h)

  -- or the writer failed in it
  pub fails_both : (result : Result T E) (old new : Written W) (P Q : List ℕ → Type 0) (first second : List ℕ)
      → P first → Q second → is_err result ≡ true → new.failed ≡ (old.failed || true) → FailsIn old new first
      → PutsSome result (AreBoth P Q) old new
  fails_both result old new P Q first second p q is fails h =
      (first ++ second, (first, second, p, q, refl), fails_first result old new first second is fails h)

  -- ---- what is written

  -- what was put is written
  pub finished : (result : Result T E) (old mid new : Written W) (text : List ℕ) → Prints old mid text
      → OnOk result (Appends mid.holds new.holds mid.waits)
      → OnErr result (AppendsBeginning mid.holds new.holds mid.waits)
      → new.failed ≡ (mid.failed || is_err result) → WritesOrFails result old new text
  finished (Ok x) old mid new text prints wrote begins failed = record {
    written = written_all old.holds mid.holds new.holds old.waits mid.waits text prints wrote;
    failed = tt;
    beginning = tt;
  }
  finished (Err e) old mid new text prints wrote begins failed = record {
    written = tt;
    failed = fails_now mid.failed new.failed failed;
    beginning = begins_written old mid new text prints begins;
  }

  -- it was not put
  pub unfinished : (result : Result T E) (old new : Written W) (text : List ℕ) → is_err result ≡ true
      → PutsOrFails result old new text → WritesOrFails result old new text
  unfinished (Ok x) old new text is h = absurd (true≢false (sym is))
  unfinished (Err e) old new text is h = record {
    written = tt;
    failed = fails_now old.failed new.failed h.failed;
    beginning = h.beginning;
  }

  pub ends_writing : (written : Result T E) (old new : Written W) (text : List ℕ) (status wanted result : ℕ)
      → WritesOrFails written old new text → result ≡ status_of written status → status ≡ wanted
      → EndsWriting old new result text wanted
  ends_writing (Ok x) old new text status wanted result h is s = inl (h.written, is ∙ s)
  ends_writing (Err e) old new text status wanted result h is s = inr (h.failed, h.beginning, is)

-- ---- counts

pub count_lines : (sign : List ℕ) (set4 set6 : ℕ → Type 0) (v4 v6 : List ℕ) → IsCount 32 set4 v4 → IsCount 128 set6 v6
    → AreCountLines sign set4 set6 (count_line (sign ++ codes "v4 ") v4 ++ count_line (sign ++ codes "v6 ") v6)
count_lines sign set4 set6 v4 v6 h k = (
  count_line (sign ++ codes "v4 ") v4,
  count_line (sign ++ codes "v6 ") v6,
  (v4, h, refl),
  (v6, k, refl),
  refl,
)

pub counts_of_one : (operation : Operation) → operation ≢ Differ
    → (first second : Sets) (text : List ℕ)
    → AreCountsLeft operation (sign_of operation First) first second text
    → AreCounts operation first second text
counts_of_one Union n first second text h = h
counts_of_one Common n first second text h = h
counts_of_one Minus n first second text h = h
counts_of_one Differ n first second text h = absurd (n refl)

pub counts_of_both : (operation : Operation) → operation ≡ Differ
    → (first second : Sets) (firsts seconds : List ℕ)
    → AreCountsLeft operation (sign_of operation First) first second firsts
    → AreCountsLeft operation (sign_of operation Second) second first seconds
    → AreCounts operation first second (firsts ++ seconds)
counts_of_both Union e first second firsts seconds h k = absurd (cc)
counts_of_both Common e first second firsts seconds h k = absurd (cc)
counts_of_both Minus e first second firsts seconds h k = absurd (cc)
counts_of_both Differ e first second firsts seconds h k = (firsts, seconds, h, k, refl)
