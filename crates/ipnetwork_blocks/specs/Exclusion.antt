-- The addresses of one network that are not in another.
use Rattle.std.specs.Prelude.{ℕ}
use Rattle.ipnetwork_family.specs.Network.{Network, Member}

-- x is an address of network but not of inner
abbrev pub InDifference : ℕ → Network → Network → ℕ → Type 0
InDifference w network inner x = Member w network x × ¬ (Member w inner x)
