-- How the logs of a run are taken, one after another.
use Rattle.std.specs.Prelude.{◌≡◌, ◌⊎◌, ℕ, ◌-◌, ◌^◌, ◌<◌, Bool, true, false, IsTrue, List, ◌∷◌, ◌++◌, length}
use Rattle.std.specs.Prelude.{Option, None, Some}
use Rattle.lines.specs.Outputs.{Written, Prints, Writes, FailsIn}
use Rattle.lists.specs.KnownLists.{KnownLists}
use Rattle.program.specs.LogFaults.{Wrote}
use Rattle.log_programs.specs.InTurn.{InTurn, GoesOn}

-- a call of the output failed, or a read of the log of this name, or it has more bytes than 64 bits count
abbrev pub FailsAt : {W : Type 0} → KnownLists → List ℕ → Written W → Type 0
FailsAt known name output = IsTrue output.failed ⊎ (known.may_fail name
    ⊎ ((log : List ℕ) → known.bytes_of name ≡ Some log → 2 ^ 64 - 1 < length log))

-- that happened at one of these logs
abbrev pub HasFailed : {W : Type 0} → KnownLists → List (List ℕ) → Written W → Type 0
HasFailed known names output = (before : List (List ℕ)) × (name : List ℕ) × (behind : List (List ℕ))
    × (names ≡ before ++ name ∷ behind) × FailsAt known name output

-- the log of this name was taken, and what it gave was put
abbrev pub TakesLog : {S W : Type 0} → (Bool → S → List ℕ → List ℕ → Option S → Type 0) → List ℕ → Written W → S
    → Written W → S → Type 0
TakesLog Gives name old was new is = (text : List ℕ) × Prints old new text
    × ((cut : Bool) → Gives cut was name text (Some is))

-- the text was written, and the exit status is this; or the writer failed, and it is 2
abbrev pub Finishes : {W : Type 0} → Written W → Written W → List ℕ → ℕ → ℕ → Type 0
Finishes old new text status result = (Writes old new text × (result ≡ status))
    ⊎ (IsTrue new.failed × FailsIn old new text × (result ≡ 2))

-- the log of this name ends the run: it has a line that does, or a device failed (`cut`)
pub record StopsLog {S W : Type 0} (Gives : Bool → S → List ℕ → List ℕ → Option S → Type 0) (known : KnownLists)
    (name : List ℕ) (old : Written W) (was : S) (new : Written W) : Type 0 where
  pub cut : Bool
  pub text : List ℕ
  pub gives : Gives cut was name text None
  pub wrote : Wrote old new text
  pub fails : cut ≡ true → FailsAt known name new

-- the logs of a run were taken, from the state `start` on: if no device failed (`cut`), what they give was written, and
-- the exit status is that of the state after them, or of none if a line ended the run; else what a beginning of them
-- gives, or a beginning of that, and the exit status is 2
pub record EndsLogs {S W : Type 0} (is_full : S → Bool) (Gives : Bool → S → List ℕ → List ℕ → Option S → Type 0)
    (status : Option S → ℕ) (start : S) (known : KnownLists) (names : List (List ℕ)) (old new : Written W)
    (result : ℕ) : Type 0 where
  pub cut : Bool
  pub text : List ℕ
  pub end : Option S
  pub gives : InTurn is_full (Gives cut) false start names text end
  pub fails : cut ≡ true → HasFailed known names new × (result ≡ 2)
  pub wrote : Finishes old new text (status end) result

-- the logs before `names` were taken, and what they gave was put, whatever comes
pub record LogsSoFar {S W : Type 0} (is_full : S → Bool) (Gives : Bool → S → List ℕ → List ℕ → Option S → Type 0)
    (start : S) (all names : List (List ℕ)) (old new : Written W) (state : S) : Type 0 where
  pub added : List ℕ
  pub prints : Prints old new added
  pub goes_on : (cut : Bool) → GoesOn is_full (Gives cut) false start all added state names
