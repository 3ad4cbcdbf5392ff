-- How lists are read, and where the reading stops.
use Rattle.std.specs.Prelude.{◌≡◌, ℕ, ◌-◌, ◌^◌, ◌<◌, ◌⊎◌, List, ◌++◌, Some, true, false, length}
use Rattle.std.specs.Str.Lines.{lines}
use Rattle.lists.specs.Lists.{ReadLists, at_list, TakesLines}
use Rattle.lists.specs.Refusals.{Refused}
use Rattle.lists.specs.Stopped.{EndsWithFeed}
use Rattle.lists.specs.KnownLists.{KnownLists}
use Rattle.lists.specs.declared.named.ReadFault.{ReadFault}
use Rattle.lists.specs.declared.named.ReadFault.TheVariants.{Open, Read, Length, NotJson, Cut, OutOfMemory, NoField}

-- the list of this name was opened, and, if its bytes are known, its lines are taken; refused lines name the list by
-- the number. If a whole list is wanted, it ends with a line feed
abbrev pub ReadsList : KnownLists → ℕ → List ℕ → ReadLists → ReadLists → Type 0
ReadsList known number name before after = known.may_open name true
    × ((input : List ℕ) → known.bytes_of name ≡ Some input → TakesLines (at_list before number) (lines input) after)
    × (before.rules.is_whole ≡ true → (input : List ℕ) → known.bytes_of name ≡ Some input → EndsWithFeed input)

-- the list of this name was opened, and, if its bytes are known, some first lines of it are taken
abbrev pub ReadsFirst : KnownLists → ℕ → List ℕ → ReadLists → ReadLists → Type 0
ReadsFirst known number name before after = known.may_open name true
    × ((input : List ℕ) → known.bytes_of name ≡ Some input
    → (first : List (List ℕ)) × (others : List (List ℕ)) × (lines input ≡ first ++ others)
    × TakesLines (at_list before number) first after)

-- the list of this name cannot be read to its end: a read of it may fail, or, if its bytes are known, there are more
-- than 64 bits count
abbrev pub FailsReading : KnownLists → List ℕ → Type 0
FailsReading known name = known.may_fail name
    ⊎ ((input : List ℕ) → known.bytes_of name ≡ Some input → 2 ^ 64 - 1 < length input)

-- the reading stops at the list of this name and number, for this reason, and `refused` are the refused lines then
abbrev pub StopsAt : KnownLists → ℕ → List ℕ → ReadLists → ReadFault → Refused → Type 0
-- the list was not opened, for this cause, and the refused lines are unchanged
StopsAt known number name before (Open place cause) refused = (place ≡ number) × known.may_open name false
    × known.may_miss name cause × (refused ≡ before.refused)
-- the list cannot be read to its end, and some first lines of it were taken, for which there was memory
StopsAt known number name before (Read place) refused = (place ≡ number) × FailsReading known name
    × (after : ReadLists) × ReadsFirst known number name before after × (after.is_out_of_memory ≡ false)
    × (refused ≡ after.refused)
-- a whole list is wanted, and this one, of which all lines were taken, does not end with a line feed
StopsAt known number name before (Cut place) refused = (place ≡ number) × known.may_open name true
    × (before.rules.is_whole ≡ true)
    × ((input : List ℕ) → known.bytes_of name ≡ Some input → ¬ (EndsWithFeed input))
    × (after : ReadLists) × ReadsFirst known number name before after × (after.is_out_of_memory ≡ false)
    × (refused ≡ after.refused)
-- these three faults do not occur: a list may have any length and any text
StopsAt known number name before (Length place) refused = ⊥
StopsAt known number name before (NotJson place line encoding) refused = ⊥
StopsAt known number name before (NoField place field) refused = ⊥
-- memory ran out for an entry of the list
StopsAt known number name before OutOfMemory refused = (after : ReadLists) × ReadsFirst known number name before after
    × (after.is_out_of_memory ≡ true) × (refused ≡ after.refused)

-- the reading of this text stops for this reason, and `refused` are the refused lines then, which name the text by the
-- number
abbrev pub StopsAtText : ℕ → List ℕ → ReadLists → ReadFault → Refused → Type 0
-- these six faults do not occur: a text is neither opened nor read from a device, and may be of any length and have any
-- end
StopsAtText number text before (Open place cause) refused = ⊥
StopsAtText number text before (Read place) refused = ⊥
StopsAtText number text before (Length place) refused = ⊥
StopsAtText number text before (NotJson place line encoding) refused = ⊥
StopsAtText number text before (Cut place) refused = ⊥
StopsAtText number text before (NoField place field) refused = ⊥
-- memory ran out for an entry of the text
StopsAtText number text before OutOfMemory refused = (after : ReadLists)
    × TakesLines (at_list before number) (lines text) after × (after.is_out_of_memory ≡ true)
    × (refused ≡ after.refused)
