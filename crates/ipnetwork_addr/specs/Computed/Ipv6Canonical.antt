-- The canonical text of an IPv6 address, computed.
use Rattle.std.specs.Prelude.{nat_le, if◌then◌else◌, ℕ, zero, suc, ◌+◌, ◌/◌, ◌%◌, ◌^◌, ◌==◌, List, [], ◌∷◌, ◌++◌, take}
use Rattle.std.specs.Prelude.{drop, codes}
use Rattle.ipnetwork_addr.specs.Digits.{segments_of}
use Rattle.ipnetwork_addr.specs.Ipv4Text.{canonical_v4}
use Rattle.ipnetwork_addr.specs.Ipv6Canonical.{hex_groups}

-- the number of zero groups before the first nonzero group, or before the end
abbrev pub zeros_in_front : List ℕ → ℕ
zeros_in_front [] = 0
zeros_in_front (group ∷ groups) = if group == 0 then suc (zeros_in_front groups) else 0

-- the longer of two runs, each given by its first group and its length; the left one if they are equally long
abbrev pub longer_run : ℕ × ℕ → ℕ × ℕ → ℕ × ℕ
longer_run left right = if nat_le right.1 left.1 then left else right

-- the longest of the runs that begin at each of the first `start` groups; the leftmost if several are equally long
abbrev pub gap_among : List ℕ → ℕ → ℕ × ℕ
gap_among groups zero = (0, 0)
gap_among groups (suc start) = longer_run (gap_among groups start) (start, zeros_in_front (drop start groups))

-- groups in hex, with `::` in place of this run if the run has at least two groups
abbrev pub gapped : List ℕ → ℕ × ℕ → List ℕ
gapped groups gap =
    if nat_le 2 gap.1 then hex_groups (take gap.0 groups) ++ codes "::" ++ hex_groups (drop (gap.0 + gap.1) groups)
    else hex_groups groups

-- the canonical text of an address
abbrev pub canonical_v6 : ℕ → List ℕ
canonical_v6 address =
    if address / 2 ^ 32 == 0xffff
    then codes "::ffff:" ++ canonical_v4 (address % 2 ^ 32)
    else gapped (segments_of address) (gap_among (segments_of address) 8)
