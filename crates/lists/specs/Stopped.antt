-- What is taken of a list that is not read to its end, or that is refused for its end.
use Rattle.std.specs.Prelude.{◌≡◌, ◌==◌, ℕ, ◌-◌, ◌^◌, ◌<◌, get_or, Bool, true, false, List, [], ◌∷◌, ◌++◌, length, Option, Some, Result}
use Rattle.std.specs.Prelude.{Ok, Err}
use Rattle.std.specs.Io.KnownBytes.{Consumes}
use Rattle.std.specs.Str.Lines.{lines}
use Rattle.lines.specs.Beginnings.{complete_part, IsBeginning}
use Rattle.lines.specs.declared.fault.RunFault.{RunFault}
use Rattle.lines.specs.declared.fault.RunFault.TheVariants.{Read, Write, InputTooLong}
use Rattle.lists.specs.Lists.{ReadLists, TakesLines}
use Rattle.lists.specs.declared.read.ListFault.{ListFault}
use Rattle.lists.specs.declared.read.ListFault.TheVariants as faults

-- the lines that these bytes complete are taken, and no others
abbrev pub TakesComplete : List ℕ → ReadLists → ReadLists → Type 0
TakesComplete bytes before after = TakesLines before (lines (complete_part bytes)) after

-- what is taken before this fault stops the reading, which had the bytes `remained` and has `remains` left
abbrev pub TakesBefore : Option (List ℕ) → Option (List ℕ) → RunFault → ReadLists → ReadLists → Type 0
-- a read failed, and the lines that the bytes read before it complete are taken
TakesBefore remained remains Read before after = (read : List ℕ) × Consumes remained remains read
    × TakesComplete read before after
-- more bytes were read than 64 bits count, and the lines that some first ones of them complete are taken
TakesBefore remained remains InputTooLong before after =
    (read : List ℕ) × (first : List ℕ) × Consumes remained remains read × (2 ^ 64 - 1 < length read)
    × IsBeginning first read × TakesComplete first before after
-- this fault does not occur: the lines get no replies, so that nothing is written
TakesBefore remained remains Write before after = ⊥

-- the last byte is a line feed (10), so that no line was cut; no bytes do not end with one
abbrev pub EndsWithFeed : List ℕ → Type 0
EndsWithFeed bytes = (before : List ℕ) × (bytes ≡ before ++ 10 ∷ [])

-- the same, computed: the byte before the end is a line feed
abbrev pub ends_with_feed : List ℕ → Bool
ends_with_feed bytes = get_or bytes (length bytes - 1) 0 == 10

-- a whole list is wanted, and this one, whose lines were all taken, does not end with a line feed
abbrev pub IsCut : Option (List ℕ) → ReadLists → ReadLists → Type 0
IsCut remained before after = (before.rules.is_whole ≡ true) × ((input : List ℕ) → remained ≡ Some input
    → ¬ (EndsWithFeed input) × TakesLines before (lines input) after)

-- what is taken of a list before this fault, with which the reading ends
abbrev pub StopsList : Option (List ℕ) → Option (List ℕ) → ListFault → ReadLists → ReadLists → Type 0
StopsList remained remains (faults.Run fault) before after = TakesBefore remained remains fault before after
StopsList remained remains faults.Cut before after = IsCut remained before after

-- whether a failed read ended the reading of a list
abbrev pub fails_reading : Result (Unit {0}) ListFault → Bool
fails_reading (Ok done) = false
fails_reading (Err (faults.Run Read)) = true
fails_reading (Err (faults.Run Write)) = false
fails_reading (Err (faults.Run InputTooLong)) = false
fails_reading (Err faults.Cut) = false
