-- How a run ends that looks for free networks for numbers of hosts.
use Rattle.std.specs.Prelude.{◌≡◌, ◌⊎◌, ℕ, List, [], Bool, true, false, Option, None, Some}
use Rattle.std.specs.Prelude.{if◌then◌else◌}
use Rattle.std.specs.List.{flat_map, list_any}
use Rattle.std.specs.Option.{is_none}
use Rattle.allotting.specs.Hosts.{AreLengthsFor}
use Rattle.allotting.specs.Places.{ArePlaces}
use Rattle.ipnetwork_family.specs.Family.{Family}
use Rattle.ipnetwork_family.specs.Network.{Network}
use Rattle.ipnetwork_sets.specs.Sets.{InFirstAlone}
use Rattle.lines.specs.Outputs.{Written}
use Rattle.cidr_merge.specs.Hosts.{hosts_in}
use Rattle.cidr_merge.specs.Pieces.{network_line}
use Rattle.cidr_merge.specs.SetNames.{Names}
use Rattle.cidr_merge.specs.Writing.{EndsSilently, EndsWriting}

-- the line of a place: its network
abbrev pub place_line : {w : ℕ} → Names → Family w → Option Network → List ℕ
place_line names family None = []
place_line names family (Some network) = network_line names family network

-- a number has no place: nothing is written, and the exit status is 1; or the networks are written, in the order of the
-- numbers, and the exit status is 3 if lines were skipped, else 0
abbrev pub EndsPlacing : {W : Type 0} {w : ℕ} → Names → Family w → Bool → List (Option Network) → Written W → Written W
    → ℕ → Type 0
EndsPlacing names family skips places old new status =
    ((list_any is_none places ≡ true) × (new ≡ old) × (status ≡ 1))
    ⊎ ((list_any is_none places ≡ false)
    × EndsWriting old new status (flat_map (place_line names family) places) (if skips then 3 else 0))

-- no network of the family has so many hosts, or memory ran out: nothing is written; otherwise there are prefix lengths
-- for the numbers, and each has its place among what the pools have and is not used
abbrev pub EndsPlaces : {W : Type 0} {w : ℕ} → Names → Family w → Bool → List Network → List Network → Written W
    → Written W → ℕ → Type 0
EndsPlaces {w = w} names family skips pools used old new status =
    EndsSilently old new status
    ⊎ ((lengths : List ℕ) × AreLengthsFor w (hosts_in names.hosts) lengths
    × (places : List (Option Network)) × ArePlaces (λ network. network) w (InFirstAlone w pools used) lengths places
    × EndsPlacing names family skips places old new status)
