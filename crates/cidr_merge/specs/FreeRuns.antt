-- How a run ends that looks for what is free or used of pools.
use Rattle.std.specs.Prelude.{◌≡◌, ℕ, List, [], ◌∷◌, Bool, true, false, not, ◌&&◌, ◌||◌, ◌⊎◌, nat_le, nat_lt, String}
use Rattle.std.specs.Prelude.{if◌then◌else◌}
use Rattle.std.specs.List.{flat_map}
use Rattle.allotting.specs.FreeBlocks.{AreFreeBlocks}
use Rattle.ipnetwork_family.specs.Family.{Family, v4_family, v6_family}
use Rattle.ipnetwork_family.specs.Network.{Network}
use Rattle.ipnetwork_sets.specs.Sets.{InFirstAlone}
use Rattle.lines.specs.Outputs.{Written}
use Rattle.lists.specs.KnownLists.{KnownLists}
use Rattle.lists.specs.Refusals.{Refused}
use Rattle.lists.specs.declared.named.ReadFault.{ReadFault}
use Rattle.program.specs.Reported.{was_refused}
use Rattle.cidr_merge.specs.Exports.{is_any}
use Rattle.cidr_merge.specs.Pieces.{network_line}
use Rattle.cidr_merge.specs.Placements.{EndsPlaces}
use Rattle.cidr_merge.specs.Reading.{ReadsSides}
use Rattle.cidr_merge.specs.SetNames.{Names}
use Rattle.cidr_merge.specs.Stopping.{StopsInSides}
use Rattle.cidr_merge.specs.Usages.{EndsUsage}
use Rattle.cidr_merge.specs.Writing.{EndsSilently, EndsWriting}
use Rattle.cidr_merge.specs.declared.command_line.FreeRequest.{FreeRequest}
use Rattle.cidr_merge.specs.declared.free_task.FreeTask.{FreeTask}
use Rattle.cidr_merge.specs.declared.free_task.FreeTask.TheVariants.{Blocks, Places, Usage}
use Rattle.cidr_merge.specs.declared.reading.Sets.{Sets}

-- whether the pools have addresses of both families, and the length is one of both
abbrev pub are_of_both : FreeRequest → Sets → Bool
are_of_both request pools = (nat_le request.length 32 && is_any pools.v4) && is_any pools.v6

-- whether the networks are those of IPv6: IPv4 has none of this length, or the pools have no address of it
abbrev pub is_v6 : FreeRequest → Sets → Bool
is_v6 request pools = nat_lt 32 request.length || not (is_any pools.v4)

-- of the networks after the first, those that are printed
abbrev pub others_if : Bool → List Network → List Network
others_if all others = if all then others else []

-- no network is free: nothing is written, and the exit status is 1; or the first is written, with the others if all are
-- asked for, and the exit status is 3 if lines were skipped, else 0
abbrev pub EndsPrinting : {W : Type 0} {w : ℕ} → Names → Family w → Bool → Bool → List Network → Written W → Written W
    → ℕ → Type 0
EndsPrinting names family all skips [] old new status = (new ≡ old) × (status ≡ 1)
EndsPrinting names family all skips (first ∷ others) old new status =
    EndsWriting old new status (flat_map (network_line names family) (first ∷ others_if all others))
    (if skips then 3 else 0)

-- the free networks of a family are those of the length that have only addresses of the pools, and none that is used
abbrev pub EndsOfLength : {W : Type 0} {w : ℕ} → Names → Family w → FreeRequest → Bool → List Network → List Network
    → Written W → Written W → ℕ → Type 0
EndsOfLength {w = w} names family request skips pools used old new status =
    (free : List Network) × AreFreeBlocks w (InFirstAlone w pools used) request.length free
    × EndsPrinting names family request.all skips free old new status

-- what is written of a family: free networks of a length, or one for each number of hosts
abbrev pub EndsTask : {W : Type 0} {w : ℕ} → FreeTask → Names → Family w → FreeRequest → Bool → List Network
    → List Network → Written W → Written W → ℕ → Type 0
EndsTask Places names family request skips pools used old new status =
    EndsPlaces names family skips pools used old new status
EndsTask Blocks names family request skips pools used old new status =
    EndsOfLength names family request skips pools used old new status
EndsTask Usage names family request skips pools used old new status =
    EndsOfLength names family request skips pools used old new status

-- if no address of the family is used, and that is not allowed, nothing is written
abbrev pub EndsFamily : {W : Type 0} {w : ℕ} → Names → Family w → FreeRequest → Bool → List Network → List Network
    → Written W → Written W → ℕ → Type 0
EndsFamily names family request skips pools used old new status =
    ((not (is_any used) && not request.merge.allows_empty ≡ true) × EndsSilently old new status)
    ⊎ ((not (is_any used) && not request.merge.allows_empty ≡ false)
    × EndsTask request.task names family request skips pools used old new status)

-- free networks of one family are written, and nothing if the pools have both
abbrev pub EndsOfOne : {W : Type 0} → Names → FreeRequest → Bool → Sets → Sets → Written W → Written W → ℕ → Type 0
EndsOfOne names request skips pools used old new status =
    ((are_of_both request pools ≡ true) × EndsSilently old new status)
    ⊎ ((are_of_both request pools ≡ false)
    × (((is_v6 request pools ≡ true) × EndsFamily names v6_family request skips pools.v6 used.v6 old new status)
    ⊎ ((is_v6 request pools ≡ false) × EndsFamily names v4_family request skips pools.v4 used.v4 old new status)))

-- what is written of the pools: how much of each network is used, of both families; or free networks of one family
abbrev pub EndsPools : {W : Type 0} → FreeTask → Names → FreeRequest → Bool → Sets → Sets → Written W → Written W → ℕ
    → Type 0
EndsPools Usage names request skips pools used old new status = EndsUsage names request skips pools used old new status
EndsPools Blocks names request skips pools used old new status =
    EndsOfOne names request skips pools used old new status
EndsPools Places names request skips pools used old new status =
    EndsOfOne names request skips pools used old new status

-- both sides were read: if lines were refused and are not to be skipped, nothing is written
abbrev pub EndsFinding : {W : Type 0} → Names → FreeRequest → Bool → Sets → Sets → Written W → Written W → ℕ → Type 0
EndsFinding names request skips pools used old new status =
    ((skips && not request.merge.skips_bad ≡ true) × EndsSilently old new status)
    ⊎ ((skips && not request.merge.skips_bad ≡ false)
    × EndsPools request.task names request skips pools used old new status)

-- a list was not read to its end, and nothing was written; or both sides were read
abbrev pub EndsFree : {Z W : Type 0} → KnownLists → List (String Z) → Names → FreeRequest → Written W → Written W → ℕ
    → Type 0
EndsFree known words names request old new status =
    ((fault : ReadFault) × StopsInSides known names.fields names.only words request.merge fault
    × EndsSilently old new status)
    ⊎ ((pools used : Sets) × (refused : Refused)
    × ReadsSides known names.fields names.only words request.merge pools used refused
    × EndsFinding names request (was_refused refused) pools used old new status)
