-- How a run ends, as its output and its exit status show.
use Rattle.std.specs.Prelude.{◌≡◌, ◌⊎◌, ℕ, List, true}
use Rattle.lines.specs.Outputs.{Written, Writes, FailsIn}

-- nothing was written, and the exit status is 2
abbrev pub EndsSilently : {W : Type 0} → Written W → Written W → ℕ → Type 0
EndsSilently old new status = (new ≡ old) × (status ≡ 2)

-- the text was written, and the exit status is `wanted`; or the writer failed and took a beginning of the text, and the
-- exit status is 2
abbrev pub EndsWriting : {W : Type 0} → Written W → Written W → ℕ → List ℕ → ℕ → Type 0
EndsWriting old new status text wanted = (Writes old new text × (status ≡ wanted))
    ⊎ ((new.failed ≡ true) × FailsIn old new text × (status ≡ 2))
