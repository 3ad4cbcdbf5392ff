-- A run that ends with Ok wrote an output for the whole input, and a run over devices that do not fail ends with Ok.
use Rattle.cidr.proofs.Words.{◌≡◌, ℕ, ◌≤◌, List, ◌++◌, length, refl, sym, ap, ◌∙◌, subst, arith, append-nil, length-append, or-true, Appends, Consumes, ◌||◌, Result, Err, OnOk, IfSome, is_ok, ended_by_read, ended_by_write, RunFault, Read, Write, InputTooLong, IsOutput, Ran}
use Rattle.std.specs.Prelude.{Bool, true, false, Option, None, Some, Ok}

-- if a run ends with Ok, an output for all that the reader had was written
pub ran_output : (limit : ℕ) (left rest held holds : Option (List ℕ)) (result : Result (Unit {0}) RunFault)
    → Ran limit left rest held holds result
    → OnOk result (IfSome left (λ input. (output : List ℕ) × IsOutput input output × Appends held holds output))
ran_output limit left rest held holds (Err fault) ran = tt
ran_output limit None rest held holds (Ok done) ran = tt
ran_output limit (Some xs) None held holds (Ok done) ran = absurd ran.reads
ran_output limit (Some xs) (Some ys) held holds (Ok done) ran =
    let read : ran.read ≡ xs = sym (ran.reads ∙ ap (λ l. ran.read ++ l) ran.ends.0 ∙ append-nil ran.read) in
    (ran.written, subst (λ (input : List ℕ). IsOutput input ran.written) read ran.ends.2, ran.writes)

-- a run reads at most the whole input
read_fits : (input read : List ℕ) (rest : Option (List ℕ)) → Consumes (Some input) rest read
    → length read ≤ length input
read_fits input read None took = absurd took
read_fits input read (Some ys) took = omega (arith, ap length took, length-append read ys)

or_true_not_false : (b : Bool) → (b || true) ≡ false → ⊥
or_true_not_false b e = let t = or-true b in cc

-- if no device failed and the input is within the limit, a run ends with Ok
pub ran_succeeds : (limit : ℕ) (left rest held holds : Option (List ℕ)) (result : Result (Unit {0}) RunFault)
    (reader_was writer_was : Bool)
    → Ran limit left rest held holds result → (input : List ℕ) → left ≡ Some input → length input ≤ limit
    → (reader_was || ended_by_read result) ≡ false → (writer_was || ended_by_write result) ≡ false → is_ok result ≡ true
ran_succeeds limit left rest held holds (Ok done) rw ww ran input e fits r w = refl
ran_succeeds limit left rest held holds (Err Read) rw ww ran input e fits r w = absurd (or_true_not_false rw r)
ran_succeeds limit left rest held holds (Err Write) rw ww ran input e fits r w = absurd (or_true_not_false ww w)
ran_succeeds limit left rest held holds (Err InputTooLong) rw ww ran input e fits r w =
    absurd (omega (
      arith,
      ran.ends.0,
      read_fits input ran.read rest
          (subst (λ (o : Option (List ℕ)). Consumes o rest ran.read) e ran.reads),
    ))
