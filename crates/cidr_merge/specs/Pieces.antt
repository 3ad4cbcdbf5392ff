-- The networks into which a network is split.
use Rattle.std.specs.Prelude.{ℕ, ◌&&◌, List, [], ◌∷◌, ◌++◌, nat_le, if◌then◌else◌}
use Rattle.std.specs.List.{flat_map}
use Rattle.ipnetwork_family.specs.Network.{Network}
use Rattle.ipnetwork_family.specs.Family.{Family, text_of, v4_family, v6_family}
use Rattle.ipnetwork_blocks.specs.Subnets.{subnets_of}
use Rattle.cidr_merge.specs.SetNames.{Names, line_of}
use Rattle.cidr_merge.specs.declared.reading.Sets.{Sets}

-- the subnets of a network with a given prefix length; the network itself if its prefix is longer, or its family has
-- no networks of that length
abbrev pub pieces : ℕ → ℕ → Network → List Network
pieces w number block =
    if nat_le block.prefix number && nat_le number w then subnets_of w block number else block ∷ []

-- the line of a network: its canonical text
abbrev pub network_line : {w : ℕ} → Names → Family w → Network → List ℕ
network_line names family network = line_of names (text_of family network ∷ [])

-- the lines of the pieces of a network
abbrev pub pieces_text : {w : ℕ} → Names → Family w → ℕ → Network → List ℕ
pieces_text {w} names family number block = flat_map (network_line names family) (pieces w number block)

-- the lines of the pieces of all networks of both families
abbrev pub split_text : Names → ℕ → Sets → List ℕ
split_text names number sets =
    flat_map (pieces_text names v4_family number) sets.v4
    ++ flat_map (pieces_text names v6_family number) sets.v6
