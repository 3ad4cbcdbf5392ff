-- What is written, and what waits to be written.
use Rattle.std.specs.Prelude.{◌≡◌, ℕ, Bool, List, ◌++◌, Option}
use Rattle.std.specs.Io.KnownBytes.{Appends}
use Rattle.lines.specs.Beginnings.{IsBeginning}

-- how contracts see an `Output`
pub record Written (W : Type 0) : Type 0 where
  -- the writer
  pub writer : W
  -- the bytes that the writer holds, if its contract says so
  pub holds : Option (List ℕ)
  -- the bytes that wait to be written
  pub waits : List ℕ
  -- whether a call of the writer failed
  pub failed : Bool

-- the bytes `added` were added to an output: before, the writer held `written_before` and `waiting_before` waited;
-- afterwards, it holds `written_after` and `waiting_after` waits
abbrev pub Puts : Option (List ℕ) → List ℕ → Option (List ℕ) → List ℕ → List ℕ → Type 0
Puts written_before waiting_before written_after waiting_after added = (written : List ℕ)
    × Appends written_before written_after written × (waiting_before ++ added ≡ written ++ waiting_after)

-- the writer, which held `written_before` and now holds `written_after`, took a beginning of the bytes
abbrev pub AppendsBeginning : Option (List ℕ) → Option (List ℕ) → List ℕ → Type 0
AppendsBeginning written_before written_after bytes = (written : List ℕ)
    × Appends written_before written_after written × IsBeginning written bytes

-- the text was added to the output
abbrev pub Prints : {W : Type 0} → Written W → Written W → List ℕ → Type 0
Prints old new text = Puts old.holds old.waits new.holds new.waits text

-- the bytes that waited were written, followed by the text
abbrev pub Writes : {W : Type 0} → Written W → Written W → List ℕ → Type 0
Writes old new text = Appends old.holds new.holds (old.waits ++ text)

-- the writer failed, after it took a beginning of the bytes that waited and the text
abbrev pub FailsIn : {W : Type 0} → Written W → Written W → List ℕ → Type 0
FailsIn old new text = AppendsBeginning old.holds new.holds (old.waits ++ text)
