-- The text of a set.
use Rattle.std.specs.Prelude.{ℕ, List, [], ◌∷◌, ◌++◌}
use Rattle.std.specs.List.{flat_map}
use Rattle.ipnetwork_family.specs.Network.{Network}

-- `b'\n'`
abbrev pub line_feed : ℕ
line_feed = 10

-- the texts of the networks in order, each on a line of its own
abbrev pub lines_of : (Network → List ℕ) → List Network → List ℕ
lines_of text networks = flat_map (λ network. text network ++ line_feed ∷ []) networks
