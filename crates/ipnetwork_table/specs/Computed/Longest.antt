-- The result of a look-up, computed from the entries of a table.
use Rattle.std.specs.Prelude.{ℕ, nat_le, if◌then◌else◌, List, [], ◌∷◌, Option, None, Some}
use Rattle.ipnetwork_family.specs.Network.{Network}
use Rattle.ipnetwork_family.specs.Computed.Network.{is_member}

-- the one of the two entries that has the longer prefix, or the first if there is no other
abbrev pub longer : {V : Type 0} → Network × V → Option (Network × V) → Option (Network × V)
longer entry None = Some entry
longer entry (Some other) = if nat_le other.0.prefix entry.0.prefix then Some entry else Some other

-- of the entries whose block holds the address, the one with the longest prefix
abbrev pub longest_of : {V : Type 0} → ℕ → ℕ → List (Network × V) → Option (Network × V)
longest_of w address [] = None
longest_of w address (entry ∷ others) =
    if is_member w entry.0 address then longer entry (longest_of w address others) else longest_of w address others
