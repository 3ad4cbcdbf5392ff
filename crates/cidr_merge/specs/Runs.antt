-- How a merge ends: its exit status, and what was written.
use Rattle.std.specs.Prelude.{◌≡◌, ℕ, List, Bool, true, false, not, ◌&&◌, ◌⊎◌, if◌then◌else◌, String}
use Rattle.lists.specs.Refusals.{Refused}
use Rattle.ipnetwork_sets.specs.Equality.{same_blocks}
use Rattle.lines.specs.Outputs.{Written}
use Rattle.lists.specs.KnownLists.{KnownLists}
use Rattle.program.specs.Reported.{was_refused}
use Rattle.lists.specs.declared.named.ReadFault.{ReadFault}
use Rattle.cidr_merge.specs.Answers.{IsAnswer}
use Rattle.cidr_merge.specs.HeldBack.{IsHeldBack}
use Rattle.cidr_merge.specs.Reading.{ReadsSides}
use Rattle.cidr_merge.specs.Stopping.{StopsInSides}
use Rattle.cidr_merge.specs.Writing.{EndsSilently, EndsWriting}
use Rattle.cidr_merge.specs.declared.command_line.Operation.{Operation}
use Rattle.cidr_merge.specs.declared.command_line.Operation.TheVariants.{Union, Common, Minus}
use Rattle.cidr_merge.specs.declared.command_line.Operation.TheVariants.{Differ}
use Rattle.cidr_merge.specs.SetNames.{Names}
use Rattle.cidr_merge.specs.declared.command_line.Request.{Request}
use Rattle.cidr_merge.specs.declared.reading.Sets.{Sets}

-- whether the operation is `differ` and its sides do not have the same blocks
abbrev pub are_unequal : Operation → Sets → Sets → Bool
are_unequal Union first second = false
are_unequal Common first second = false
are_unequal Minus first second = false
are_unequal Differ first second =
    not (same_blocks first.v4 second.v4 && same_blocks first.v6 second.v6)

-- the exit status after the result was written: 3 if lines were skipped, else 1 if the sides of `differ` are not equal,
-- else 0
abbrev pub answer_status : Operation → Bool → Sets → Sets → ℕ
answer_status operation skips first second =
    if skips then 3 else if are_unequal operation first second then 1 else 0

-- the result is held back, and nothing is written; or it is written, unless the writer fails
abbrev pub EndsUnlessHeld : {W : Type 0} → Names → Request → Bool → Sets → Sets → Written W → Written W → ℕ → Type 0
EndsUnlessHeld sets request skips first second old new status =
    (IsHeldBack request first second true × EndsSilently old new status)
    ⊎ (IsHeldBack request first second false
    × (text : List ℕ) × IsAnswer sets request.operation request.form first second text
    × EndsWriting old new status text (answer_status request.operation skips first second))

-- the lists of both sides were read: if lines were refused and are not to be skipped, or the result is held back,
-- nothing is written; otherwise the result is written, unless the writer fails
abbrev pub EndsAnswering : {W : Type 0} → Names → Request → Bool → Sets → Sets → Written W → Written W → ℕ → Type 0
EndsAnswering sets request skips first second old new status =
    ((skips && not request.skips_bad ≡ true) × EndsSilently old new status)
    ⊎ ((skips && not request.skips_bad ≡ false) × EndsUnlessHeld sets request skips first second old new status)

-- a list was not read to its end, and nothing was written; or all were read, and the result was written
abbrev pub EndsMerging : {Z W : Type 0} → KnownLists → List (String Z) → Names → Request → Written W → Written W → ℕ
    → Type 0
EndsMerging known words sets request old new status =
    ((fault : ReadFault) × StopsInSides known sets.fields sets.only words request fault × EndsSilently old new status)
    ⊎ ((first second : Sets) × (refused : Refused)
    × ReadsSides known sets.fields sets.only words request first second refused
    × EndsAnswering sets request (was_refused refused) first second old new status)
