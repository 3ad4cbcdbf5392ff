-- Ranges of addresses.
use Rattle.std.specs.Prelude.{ℕ, ◌≤◌}

-- x is an address from first to last, both included
abbrev pub FromTo : ℕ → ℕ → ℕ → Type 0
FromTo first last x = (first ≤ x) × (x ≤ last)
