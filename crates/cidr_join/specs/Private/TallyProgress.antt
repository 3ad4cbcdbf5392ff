-- How the lines of logs are counted, step by step.
use Rattle.std.specs.Prelude.{◌≡◌, ◌⊎◌, ℕ, ◌-◌, ◌^◌, ◌<◌, Bool, true, false, List, [], ◌∷◌, ◌++◌, length, Option}
use Rattle.std.specs.Prelude.{◌||◌, None, Some, Result, OnOk}
use Rattle.ipnetwork.specs.declared.ip_network.IpNetwork.{IpNetwork}
use Rattle.lines.specs.Outputs.{Written}
use Rattle.lists.specs.KnownLists.{KnownLists}
use Rattle.log_programs.specs.InTurn.{GoesOn}
use Rattle.log_programs.specs.LogReads.{ReadsLog, ReadsSoFar}
use Rattle.log_programs.specs.LogStats.{nothing}
use Rattle.log_programs.specs.declared.log_stats.LogStats.{LogStats}
use Rattle.program.specs.LogReaders.{OpenLog}
use Rattle.program.specs.declared.log_fault.LogFault.{LogFault}
use Rattle.program.specs.declared.log_fault.LogFault.TheVariants as faults
use Rattle.cidr_join.specs.Joins.{Finds, GivesLine, counted_for, counted_in, never}
use Rattle.cidr_join.specs.Logs.{GivesOne}
use Rattle.cidr_join.specs.Runs.{LacksMemory, MarksLogs}
use Rattle.cidr_join.specs.Tallies.{count_of}
use Rattle.cidr_join.specs.Private.Counting.{Counted, repeated}
use Rattle.cidr_join.specs.declared.counts.Counts.{Counts}
use Rattle.cidr_join.specs.declared.found.Found.{Found}
use Rattle.cidr_join.specs.declared.join.Join.{Join}

-- these texts were counted, some by their bytes and some by number: each is among them as often as these two counts say
-- together
pub record IsCounted (founds : List Found) (texts : List (List ℕ)) (counts : Counts) : Type 0 where
  pub kept : List (List ℕ)
  pub is_kept : Counted [] kept counts.tally.counts
  pub size : length counts.numbers.items ≡ length founds
  pub all : (text : List ℕ) → count_of text (kept ++ repeated founds counts.numbers.items) ≡ count_of text texts

module _ (founds : List Found) where
  -- these texts were counted in addition
  abbrev pub CountsAll : List (List ℕ) → Counts → Counts → Type 0
  CountsAll marks old new = (texts : List (List ℕ)) → IsCounted founds texts old → IsCounted founds (texts ++ marks) new

  -- what is found for the network, or for a line without an address, was counted
  abbrev pub CountsAsked : Join → Option IpNetwork → Counts → Counts → Type 0
  CountsAsked join asked old new = (found : Found) × Finds join asked found
      × CountsAll (counted_for join asked found) old new

  -- what the line gives was counted
  abbrev pub CountsLine : Join → List ℕ → Counts → Counts → LogStats → LogStats → Type 0
  CountsLine join line old new was is = (marks : List (List ℕ)) × GivesLine counted_in join was line [] marks (Some is)
      × CountsAll marks old new

  -- what the lines that were returned give was counted
  pub record CountsSoFar (join : Join) (log : OpenLog) (remained remains : Option (List ℕ)) (old new : Counts)
      (seen : LogStats) : Type 0 where
    pub marks : List (List ℕ)
    pub counts : CountsAll marks old new
    pub reads : ReadsSoFar never (GivesLine counted_in join) nothing log remained remains marks seen

  -- what the lines of a log give was counted, unless a fault stopped that
  pub record CountsLog {T : Type 0} (result : Result T LogFault) (join : Join) (remained : Option (List ℕ))
      (read_failed : Bool) (old new : Counts) (seen : LogStats) : Type 0 where
    pub marks : List (List ℕ)
    pub counts : OnOk result (CountsAll marks old new)
    pub reads : ReadsLog never (GivesLine counted_in join) nothing result remained read_failed marks seen

  -- what the log of this name gives was counted, and whether it or a line of it is missed
  abbrev pub CountsName : Join → KnownLists → List ℕ → Bool → Counts → Counts → Type 0
  CountsName join known name more old new = (marks : List (List ℕ)) × CountsAll marks old new
      × ((cut missed : Bool) → GivesOne counted_in join known cut missed name marks (Some (missed || more)))

  -- what the logs before `names` give was counted, whatever comes
  pub record CountsNames (join : Join) (known : KnownLists) (all names : List (List ℕ)) (missed : Bool)
      (old new : Counts) : Type 0 where
    pub marks : List (List ℕ)
    pub counts : CountsAll marks old new
    pub goes_on : (cut : Bool) → GoesOn never (GivesOne counted_in join known cut) false false all marks missed names

-- the fault stops the counting at the line: it ends the run, or memory, the only thing written to, ran out
abbrev pub LineNotCounted : Join → List ℕ → LogStats → LogFault → Type 0
LineNotCounted join line was faults.Read = ⊥
LineNotCounted join line was faults.Write = Unit {0}
LineNotCounted join line was faults.Address = GivesLine counted_in join was line [] [] None
LineNotCounted join line was faults.Length = ⊥
LineNotCounted join line was faults.Endless = ⊥

-- a read of the log of this name failed, or it has more bytes than 64 bits count
abbrev pub FailsReading : KnownLists → List ℕ → Type 0
FailsReading known name = known.may_fail name
    ⊎ ((log : List ℕ) → known.bytes_of name ≡ Some log → 2 ^ 64 - 1 < length log)

-- the log of this name ends the run, or memory ran out
abbrev pub StopsCounting : {E : Type 0} → Join → KnownLists → List ℕ → Written E → Type 0
StopsCounting join known name errors = LacksMemory errors
    ⊎ ((cut : Bool) × (marks : List (List ℕ)) ×
    ((missed : Bool) → GivesOne counted_in join known cut missed name marks None)
    × (cut ≡ true → FailsReading known name))

-- one of the logs with these names ends the run, or memory ran out
abbrev pub StopsTally : {E : Type 0} → Join → KnownLists → List (List ℕ) → Written E → Type 0
StopsTally join known names errors = LacksMemory errors
    ⊎ ((cut : Bool) × (marks : List (List ℕ)) × MarksLogs join known cut names marks None
    × (cut ≡ true → (before : List (List ℕ)) × (name : List ℕ) × (behind : List (List ℕ))
    × (names ≡ before ++ name ∷ behind) × FailsReading known name))

-- if the fault is that memory ran out, that is the last thing reported
abbrev pub TellsUncounted : {E : Type 0} → LogFault → Written E → Type 0
TellsUncounted fault errors = fault ≡ faults.Write → LacksMemory errors
