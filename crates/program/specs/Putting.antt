-- Texts that are put into an output.
use Rattle.std.specs.Prelude.{◌≡◌, ◌||◌, ℕ, List, Result, OnOk, OnErr, is_err}
use Rattle.lines.specs.Outputs.{Written, Prints, FailsIn}

-- the text was added; or the writer failed and took a beginning of what waited and of the text; the writer has failed
-- afterwards exactly if it failed now or earlier
pub record PutsOrFails {W T E : Type 0} (result : Result T E) (old new : Written W) (text : List ℕ) : Type 0 where
  pub ok : OnOk result (Prints old new text)
  pub failed : new.failed ≡ (old.failed || is_err result)
  pub beginning : OnErr result (FailsIn old new text)
