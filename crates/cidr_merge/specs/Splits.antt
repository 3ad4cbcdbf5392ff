-- How a run ends that splits networks.
use Rattle.std.specs.Prelude.{◌≡◌, ◌+◌, ℕ, List, Bool, true, false, not, ◌&&◌, ◌||◌, ◌⊎◌, length, nat_lt}
use Rattle.std.specs.Prelude.{if◌then◌else◌, String}
use Rattle.lines.specs.Outputs.{Written}
use Rattle.lists.specs.KnownLists.{KnownLists}
use Rattle.cidr_merge.specs.OneSide.{EndsSide}
use Rattle.cidr_merge.specs.Pieces.{split_text}
use Rattle.cidr_merge.specs.SetNames.{Names}
use Rattle.cidr_merge.specs.Writing.{EndsSilently, EndsWriting}
use Rattle.cidr_merge.specs.declared.reading.Sets.{Sets}
use Rattle.cidr_merge.specs.declared.command_line.SplitRequest.{SplitRequest}

-- whether the least lists of both families have fewer networks than `--at-least` wants
abbrev pub lacks_networks : SplitRequest → Sets → Bool
lacks_networks request sets = nat_lt (length sets.v4 + length sets.v6) request.at_least

-- the lists were read: if lines were refused and are not to be skipped, or there are too few networks, nothing is
-- written; otherwise the pieces are written, unless the writer fails; the exit status is 3 if lines were skipped, else 0
abbrev pub EndsCutting : {W : Type 0} → Names → SplitRequest → Bool → Sets → Written W → Written W → ℕ → Type 0
EndsCutting names request skips sets old new status =
    (((skips && not request.skips_bad) || lacks_networks request sets ≡ true) × EndsSilently old new status)
    ⊎ (((skips && not request.skips_bad) || lacks_networks request sets ≡ false)
    × EndsWriting old new status (split_text names request.length sets) (if skips then 3 else 0))

-- the lists were read, and their networks were written in pieces
abbrev pub EndsSplitting : {Z W : Type 0} → KnownLists → List (String Z) → Names → SplitRequest → Written W → Written W
    → ℕ → Type 0
EndsSplitting known words names request old new status =
    EndsSide known names.fields names.only words request.shape
    (λ sets skips. EndsCutting names request skips sets old new status) old new status
