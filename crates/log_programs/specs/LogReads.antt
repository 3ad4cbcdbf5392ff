-- How the reading of a log ends, and what is given for its lines.
use Rattle.std.specs.Prelude.{◌≡◌, ℕ, ◌-◌, ◌^◌, ◌<◌, Bool, true, false, IsTrue, List, [], ◌++◌, length, Option, None}
use Rattle.std.specs.Prelude.{Some, Result, Ok, Err, IfErr}
use Rattle.lines.specs.Outputs.{Written, Prints, FailsIn}
use Rattle.program.specs.LogLines.{LogLine, log_lines, content, printed}
use Rattle.program.specs.LogReaders.{OpenLog, HandsFirst}
use Rattle.program.specs.declared.log_fault.LogFault.{LogFault}
use Rattle.program.specs.declared.log_fault.LogFault.TheVariants as faults
use Rattle.log_programs.specs.InTurn.{InTurn, GoesOn}

-- a device failed, or the log has more bytes than 64 bits count
abbrev pub is_cut : {T : Type 0} → Result T LogFault → Bool
is_cut (Err faults.Read) = true
is_cut (Err faults.Write) = true
is_cut (Err faults.Endless) = true
is_cut _ = false

-- the state after a log that did not end the run
abbrev pub end_of : {T S : Type 0} → Result T LogFault → S → Option S
end_of (Ok done) state = Some state
end_of (Err fault) state = None

-- why a log was cut
abbrev pub Cuts : Option (List ℕ) → Bool → LogFault → Type 0
Cuts remained read_failed faults.Read = IsTrue read_failed
Cuts remained read_failed faults.Endless = (log : List ℕ) → remained ≡ Some log → 2 ^ 64 - 1 < length log
Cuts remained read_failed other = Unit {0}

-- the text was put; if the writer failed, it took a beginning of what waited and of the text
abbrev pub Put : {T W : Type 0} → Result T LogFault → Written W → Written W → List ℕ → Type 0
Put (Err faults.Write) old new text = IsTrue new.failed × FailsIn old new text
Put _ old new text = Prints old new text

-- what a line gives in a state, by `Of` what it gives without its end and as it is printed
abbrev pub OfLine : {S X : Type 0} → (S → List ℕ → List ℕ → List X → Option S → Type 0) → S → LogLine → List X
    → Option S → Type 0
OfLine Of state line given next = Of state (content line) (printed line) given next

-- a log was read; if its bytes are known, its lines gave this, from the state `start` on
pub record ReadsLog {S X T : Type 0} (is_full : S → Bool) (Of : S → List ℕ → List ℕ → List X → Option S → Type 0)
    (start : S) (result : Result T LogFault) (remained : Option (List ℕ)) (read_failed : Bool) (added : List X)
    (state : S) : Type 0 where
  pub cuts : IfErr result (Cuts remained read_failed)
  pub gives : (cut : Bool) (log : List ℕ) → remained ≡ Some log → (is_cut result ≡ true → cut ≡ true)
      → InTurn is_full (OfLine Of) cut start (log_lines log) added (end_of result state)

-- a log was read, and what its lines gave was put into the output
pub record PrintsLog {S T W : Type 0} (is_full : S → Bool) (Of : S → List ℕ → List ℕ → List ℕ → Option S → Type 0)
    (start : S) (result : Result T LogFault) (remained : Option (List ℕ)) (read_failed : Bool) (old new : Written W)
    (state : S) : Type 0 where
  pub added : List ℕ
  pub put : Put result old new added
  pub reads : ReadsLog is_full Of start result remained read_failed added state

-- the lines that were returned gave this, whatever comes
pub record ReadsSoFar {S X : Type 0} (is_full : S → Bool) (Of : S → List ℕ → List ℕ → List X → Option S → Type 0)
    (start : S) (log : OpenLog) (remained remains : Option (List ℕ)) (added : List X) (state : S) : Type 0 where
  pub first : List LogLine
  pub hands : HandsFirst log remained remains first
  pub goes_on : (cut : Bool) (lines : List LogLine)
      → GoesOn is_full (OfLine Of) cut start (first ++ lines) added state lines

-- the lines that were returned gave this, and it was put into the output
pub record PrintsSoFar {S W : Type 0} (is_full : S → Bool) (Of : S → List ℕ → List ℕ → List ℕ → Option S → Type 0)
    (start : S) (log : OpenLog) (remained remains : Option (List ℕ)) (old new : Written W) (state : S) : Type 0 where
  pub added : List ℕ
  pub prints : Prints old new added
  pub reads : ReadsSoFar is_full Of start log remained remains added state

-- the line was taken, and what it gave was put
abbrev pub TakesLine : {S W : Type 0} → (S → List ℕ → List ℕ → List ℕ → Option S → Type 0) → List ℕ → List ℕ → Written W
    → S → Written W → S → Type 0
TakesLine Of line text old was new is = (given : List ℕ) × Of was line text given (Some is) × Prints old new given

-- the line stops the reading by this fault: it ends the run, or a write of what it gave failed
abbrev pub StopsLine : {S W : Type 0} → (S → List ℕ → List ℕ → List ℕ → Option S → Type 0) → List ℕ → List ℕ → Written W
    → S → Written W → LogFault → Type 0
StopsLine Of line text old was new faults.Read = ⊥
StopsLine {S = S} Of line text old was new faults.Write = IsTrue new.failed × (given : List ℕ) × (left : S)
    × Of was line text given (Some left) × FailsIn old new given
StopsLine Of line text old was new faults.Address = Of was line text [] None × (new ≡ old)
StopsLine Of line text old was new faults.Length = Of was line text [] None × (new ≡ old)
StopsLine Of line text old was new faults.Endless = ⊥
