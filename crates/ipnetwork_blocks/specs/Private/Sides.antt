-- The addresses on either side of a network.
use Rattle.std.specs.Prelude.{ℕ, ◌<◌, ◌≤◌}
use Rattle.ipnetwork_family.specs.Network.{Network, low, high}

-- x is an address from first up to the last one before the network
abbrev pub Before : ℕ → ℕ → Network → ℕ → Type 0
Before w first n x = (first ≤ x) × (x < low w n)

-- x is an address from the first one after the network up to last
abbrev pub Behind : ℕ → Network → ℕ → ℕ → Type 0
Behind w n last x = (high w n < x) × (x ≤ last)
