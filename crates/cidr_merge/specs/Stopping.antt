-- Where the reading of lists stops.
use Rattle.std.specs.Prelude.{◌≡◌, ℕ, ◌+◌, List, ◌∷◌, ◌++◌, ◌⊎◌, Option, false, String, length, take}
use Rattle.std.specs.Prelude.{drop}
use Rattle.std.specs.String.{string_bytes}
use Rattle.lists.specs.Lists.{ReadLists, nothing_read}
use Rattle.lists.specs.Refusals.{Refused, no_refusals}
use Rattle.lists.specs.KnownLists.{KnownLists}
use Rattle.cidr_merge.specs.Shapes.{Source, source, rules_of, StopsOne}
use Rattle.lists.specs.declared.named.ReadFault.{ReadFault}
use Rattle.cidr_merge.specs.Reading.{ReadsLists, ReadsSide}
use Rattle.cidr_merge.specs.declared.command_line.Request.{Request}
use Rattle.cidr_merge.specs.declared.exports.Version.{Version}
use Rattle.cidr_merge.specs.declared.reading.Sets.{Sets}

-- the lists of these names, the first of which has this number, are read in turn up to one at which the reading
-- stops
pub record Stops {Z : Type 0} (from : Source) (number : ℕ) (names : List (String Z))
    (before : ReadLists) (fault : ReadFault) : Type 0 where
  pub first : List (String Z)
  pub name : String Z
  pub others : List (String Z)
  pub between : ReadLists
  pub refused : Refused
  pub cut : names ≡ first ++ name ∷ others
  pub reads : ReadsLists from number first before between
  pub memory : between.is_out_of_memory ≡ false
  pub stops : StopsOne from (number + length first) (string_bytes name) between fault refused

-- the reading stops at a list of the first side, or, if those were read, at one of the second
abbrev pub StopsInSides : {Z : Type 0} → KnownLists → List (List ℕ) → Option Version → List (String Z) → Request
    → ReadFault → Type 0
StopsInSides known fields only words request fault =
    Stops (source known fields request.shape) 0 (take request.middle words)
    (nothing_read (rules_of request.shape) no_refusals) fault
    ⊎ ((first : Sets) × (between : Refused)
    × ReadsSide (source known fields request.shape) only 0 (take request.middle words) no_refusals first between
    × Stops (source known fields request.shape) request.middle (drop request.middle words)
    (nothing_read (rules_of request.shape) between) fault)
