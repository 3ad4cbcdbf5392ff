-- The output of printing functions.
use Rattle.std.specs.Prelude.{◌≡◌, ℕ, List, Result, OnErr, OnOk, true}
use Rattle.lines.specs.Outputs.{FailsIn, Written, Writes}
use Rattle.program.specs.Putting.{PutsOrFails}

-- a text with this property was put, or the writer failed and took a beginning of it
abbrev pub PutsSome : {W T E : Type 0} → Result T E → (List ℕ → Type 0) → Written W → Written W → Type 0
PutsSome result Is old new = (text : List ℕ) × Is text × PutsOrFails result old new text

-- the text was written, or the writer failed and took a beginning of it
pub record WritesOrFails {W T E : Type 0} (result : Result T E) (old new : Written W) (text : List ℕ) : Type 0 where
  pub written : OnOk result (Writes old new text)
  pub failed : OnErr result (new.failed ≡ true)
  pub beginning : OnErr result (FailsIn old new text)
