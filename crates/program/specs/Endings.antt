-- How a program ends.
use Rattle.std.specs.Prelude.{◌≡◌, ℕ, List, true, if◌then◌else◌, Result, is_err}
use Rattle.lines.specs.Outputs.{Written, Writes, FailsIn}
use Rattle.program.specs.Messages.{Reports}

-- the exit status of a program: `status` if its output was written, and 2 if not
abbrev pub status_of : {T E : Type 0} → Result T E → ℕ → ℕ
status_of written status = if is_err written then 2 else status

-- how a run ended: its output and its error output, before and after the run, and its exit status
pub record Ending (W E : Type 0) : Type 0 where
  pub output : Written W
  pub output_after : Written W
  pub errors : Written E
  pub errors_after : Written E
  pub status : ℕ

-- the ending of a run with these outputs and this exit status
abbrev pub ending : {W E : Type 0} → Written W → Written W → Written E → Written E → ℕ → Ending W E
ending output output_after errors errors_after status =
    record {
      output = output;
      output_after = output_after;
      errors = errors;
      errors_after = errors_after;
      status = status;
    }

-- the run wrote nothing to its output, and its exit status is 2
abbrev pub IsSilent : {W E : Type 0} → Ending W E → Type 0
IsSilent end = (end.output_after ≡ end.output) × (end.status ≡ 2)

-- the run reported the text on its error writer
abbrev pub HasTold : {W E : Type 0} → Ending W E → List ℕ → Type 0
HasTold end text = Reports end.errors end.errors_after text

-- the run wrote the text to its output, after what waited there
abbrev pub HasWritten : {W E : Type 0} → Ending W E → List ℕ → Type 0
HasWritten end text = Writes end.output end.output_after text

-- the run wrote nothing to its output, its exit status is 2, and it reported the text
abbrev pub Refuses : {W E : Type 0} → List ℕ → Ending W E → Type 0
Refuses text end = IsSilent end × HasTold end text

-- the run wrote the text, and its exit status is 0; or the writer has failed, and it is 2; a writer that failed took a
-- beginning of the text
abbrev pub EndsPrinting : {W E : Type 0} → List ℕ → Ending W E → Type 0
EndsPrinting text end = (end.status ≡ (if end.output_after.failed then 2 else 0))
    × (end.status ≡ 0 → HasWritten end text)
    × (end.output_after.failed ≡ true → FailsIn end.output end.output_after text)
