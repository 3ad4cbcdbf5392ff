-- The last stored block that does not come after a given network.
use Rattle.std.specs.Prelude.{ℕ, ◌<◌, ◌≤◌, IsSome}
use Rattle.std.specs.FinMap.{FinMap, get}
use Rattle.ipnetwork_family.specs.Network.{Network, Member, IsNetworkAtMost, network_cmp}

-- each stored network comes after n
abbrev pub NoneUpTo : {V : Type 0} → FinMap network_cmp V → Network → Type 0
NoneUpTo t n = (m : Network) → IsSome (get t m) → ¬ (IsNetworkAtMost m n)

-- k is the last stored network that is n or comes before it
abbrev pub IsLastUpTo : {V : Type 0} → FinMap network_cmp V → Network → Network → Type 0
IsLastUpTo t n k = IsSome (get t k) × IsNetworkAtMost k n
    × ((m : Network) → IsSome (get t m) → IsNetworkAtMost m n → IsNetworkAtMost m k)

-- no stored block with a prefix length greater than p holds x
abbrev pub NoneAbove : {V : Type 0} → ℕ → FinMap network_cmp V → ℕ → ℕ → Type 0
NoneAbove w t x p = (n : Network) → IsSome (get t n) → p < n.prefix → ¬ (Member w n x)

-- the addresses x and y of w bits share at most their first c bits: no longer prefix of x is one of y
abbrev pub ShareAtMost : ℕ → ℕ → ℕ → ℕ → Type 0
ShareAtMost w x y c = (p : ℕ) → c < p → p ≤ w → ¬ (Member w (record { address = x; prefix = p }) y)
