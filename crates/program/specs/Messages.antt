-- Messages on the error writer.
use Rattle.std.specs.Prelude.{◌≡◌, ℕ, IsTrue, IsFalse, List}
use Rattle.lines.specs.Outputs.{Written, Prints, FailsIn}

-- the text was added to what the writer gets; a writer that has failed since took a beginning of what waited and the
-- text; and one that had failed before is as it was
pub record Reports {W : Type 0} (old new : Written W) (text : List ℕ) : Type 0 where
  pub told : IsFalse new.failed → Prints old new text
  pub cut : IsTrue new.failed → FailsIn old new text
  pub stays : IsTrue old.failed → new ≡ old
