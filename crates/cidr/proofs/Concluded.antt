-- What follows from how a run ended, if the contracts of the reader and the writer give their contents.
use Rattle.cidr.proofs.Words.{◌≡◌, ℕ, ◌<◌, ◌≤◌, List, ◌++◌, length, take, sym, ap, ◌∙◌, subst, append-nil, append_cancel_right, take-append_seam, Result, Err, RunFault, Read, Write, InputTooLong, complete_part, IsBeginning, IsOutput, Ran, BeginsOutput, AfterOk, AfterReadFault, AfterWriteFault, AfterTooLong}
use Rattle.std.specs.Prelude.{Option, None, Some}

-- the run read the bytes that the reader lost
was_read : (limit : ℕ) (read rest : List ℕ) (held holds : Option (List ℕ)) (result : Result (Unit {0}) RunFault)
    → (ran : Ran limit (Some (read ++ rest)) (Some rest) held holds result) → ran.read ≡ read
was_read limit read rest held holds result ran = sym (append_cancel_right read ran.read rest ran.reads)

pub after_ok : AfterOk
after_ok limit input held holds None done ran = absurd ran.reads
after_ok limit input held holds (Some rest) done ran =
    let all : ran.read ≡ input = sym (ran.reads ∙ ap (λ l. ran.read ++ l) ran.ends.0 ∙ append-nil ran.read) in (
      subst (λ (l : List ℕ). length l ≤ limit) all ran.ends.1,
      ran.written,
      subst (λ (l : List ℕ). IsOutput l ran.written) all ran.ends.2,
      ran.writes,
    )

pub after_read_fault : AfterReadFault
after_read_fault limit read rest held holds ran =
    let same = was_read limit read rest (Some held) (Some holds) (Err Read) ran in (
      subst (λ (l : List ℕ). length l ≤ limit) same ran.ends.0,
      ran.written,
      subst (λ (l : List ℕ). IsOutput (complete_part l) ran.written) same ran.ends.1,
      ran.writes,
    )

pub after_write_fault : AfterWriteFault
after_write_fault limit read rest held holds ran =
    let same = was_read limit read rest (Some held) (Some holds) (Err Write) ran in (
      subst (λ (l : List ℕ). length l ≤ limit) same ran.ends.0,
      ran.written,
      subst (λ (l : List ℕ). BeginsOutput l ran.written) same ran.ends.1,
      ran.writes,
    )

-- a beginning is some number of the first bytes
first_bytes : (front whole : List ℕ) → IsBeginning front whole → front ≡ take (length front) whole
first_bytes front whole h = sym (ap (take (length front)) h.1 ∙ take-append_seam front h.0)

pub after_too_long : AfterTooLong
after_too_long limit read rest held holds ran =
    let same = was_read limit read rest (Some held) (Some holds) (Err InputTooLong) ran in
    let part = ran.ends.1 in (
      subst (λ (l : List ℕ). limit < length l) same ran.ends.0,
      length part.0,
      part.2,
      ran.written,
      subst (λ (l : List ℕ). IsOutput (complete_part l) ran.written) (first_bytes part.0 ran.read part.1
          ∙ ap (take (length part.0)) same) part.3,
      ran.writes,
    )
