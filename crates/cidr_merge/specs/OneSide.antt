-- How a run ends that reads lists as one side.
use Rattle.std.specs.Prelude.{ℕ, List, Bool, ◌⊎◌, Option, String}
use Rattle.lines.specs.Outputs.{Written}
use Rattle.lists.specs.KnownLists.{KnownLists}
use Rattle.lists.specs.Lists.{nothing_read}
use Rattle.lists.specs.Refusals.{Refused, no_refusals}
use Rattle.lists.specs.declared.named.ReadFault.{ReadFault}
use Rattle.program.specs.Reported.{was_refused}
use Rattle.cidr_merge.specs.Reading.{ReadsSide}
use Rattle.cidr_merge.specs.Shapes.{source, rules_of}
use Rattle.cidr_merge.specs.Stopping.{Stops}
use Rattle.cidr_merge.specs.Writing.{EndsSilently}
use Rattle.cidr_merge.specs.declared.exports.Version.{Version}
use Rattle.cidr_merge.specs.declared.reading.Sets.{Sets}
use Rattle.cidr_merge.specs.declared.shapes.Shape.{Shape}

-- a list was not read to its end, and nothing was written; or all were read, and the run ended as `Ends` says, by the
-- addresses of the lists, and whether lines were refused
abbrev pub EndsSide : {Z W : Type 0} → KnownLists → List (List ℕ) → Option Version → List (String Z) → Shape
    → (Sets → Bool → Type 0) → Written W → Written W → ℕ → Type 0
EndsSide known fields only words shape Ends old new status =
    ((fault : ReadFault) × Stops (source known fields shape) 0 words (nothing_read (rules_of shape) no_refusals) fault
    × EndsSilently old new status)
    ⊎ ((sets : Sets) × (refused : Refused) × ReadsSide (source known fields shape) only 0 words no_refusals sets refused
    × Ends sets (was_refused refused))
