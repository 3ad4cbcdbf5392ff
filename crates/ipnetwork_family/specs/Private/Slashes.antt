-- Where a text is split at its `/`.
use Rattle.std.specs.Prelude.{ℕ, ◌+◌, ◌<◌, List, Option, None, Some, take, drop, length}
use Rattle.ipnetwork_family.specs.NetworkText.{IsSplit}

-- the position of the only `/`, or `None` if there is no `/`
abbrev pub IsOnlySlash : List ℕ → Option ℕ → Type 0
IsOnlySlash text None = IsSplit text text None
IsOnlySlash text (Some at) = (at < length text) × IsSplit text (take at text) (Some (drop (at + 1) text))
