-- How a run ends that shows how much of each network is used.
use Rattle.std.specs.Prelude.{◌≡◌, ◌⊎◌, ℕ, ◌-◌, ◌*◌, ◌/◌, ◌%◌, List, [], ◌∷◌, ◌++◌, Bool, true, false, not, ◌&&◌}
use Rattle.std.specs.Prelude.{◌||◌, codes, decimal, if◌then◌else◌}
use Rattle.std.specs.List.{flat_map}
use Rattle.allotting.specs.Usage.{AreUsed}
use Rattle.ipnetwork_family.specs.Family.{Family, text_of, v4_family, v6_family}
use Rattle.ipnetwork_family.specs.Network.{Network, block_size}
use Rattle.lines.specs.Outputs.{Written}
use Rattle.cidr_merge.specs.Answers.{AreBoth}
use Rattle.cidr_merge.specs.Exports.{is_any}
use Rattle.cidr_merge.specs.SetNames.{Names, line_of}
use Rattle.cidr_merge.specs.Writing.{EndsSilently, EndsWriting}
use Rattle.cidr_merge.specs.declared.command_line.FreeRequest.{FreeRequest}
use Rattle.cidr_merge.specs.declared.reading.Sets.{Sets}

-- which part of a whole is used, in percent with one digit after the point, rounded down
abbrev pub share : ℕ → ℕ → List ℕ
share used whole =
    decimal (used * 1000 / whole / 10) ++ codes "." ++ decimal (used * 1000 / whole % 10)

-- the line of a network and of the number of its used addresses: its text, that number, that of those that are free, and
-- the part that is used, with a space between each two
abbrev pub usage_line : {w : ℕ} → Names → Family w → Network × ℕ → List ℕ
usage_line {w} names family usage =
    line_of names (text_of family usage.0 ∷ codes " " ∷ decimal usage.1 ∷ codes " "
    ∷ decimal (block_size w usage.0.prefix - usage.1) ∷ codes " " ∷ share usage.1 (block_size w usage.0.prefix) ∷ [])

-- the text has a line for each network of the least list of a family's pools
abbrev pub AreUsageLines : {w : ℕ} → Names → Family w → List Network → List Network → List ℕ → Type 0
AreUsageLines {w} names family pools used text =
    (usage : List (Network × ℕ)) × AreUsed w pools used usage × (text ≡ flat_map (usage_line names family) usage)

-- whether there are no pools, or pools of a family of which no address is used
abbrev pub lacks_used : Sets → Sets → Bool
lacks_used pools used =
    ((is_any pools.v4 && not (is_any used.v4)) || (is_any pools.v6 && not (is_any used.v6)))
    || (not (is_any pools.v4) && not (is_any pools.v6))

-- pools or used addresses lack, and that is not allowed, or memory ran out: nothing is written; otherwise the lines of
-- both families are written, and the exit status is 3 if lines were skipped, else 0
abbrev pub EndsUsage : {W : Type 0} → Names → FreeRequest → Bool → Sets → Sets → Written W → Written W → ℕ → Type 0
EndsUsage names request skips pools used old new status =
    EndsSilently old new status
    ⊎ ((lacks_used pools used && not request.merge.allows_empty ≡ false)
    × (text : List ℕ) × AreBoth (AreUsageLines names v4_family pools.v4 used.v4)
    (AreUsageLines names v6_family pools.v6 used.v6) text
    × EndsWriting old new status text (if skips then 3 else 0))
