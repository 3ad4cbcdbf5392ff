-- The longest network of a list that has all addresses of another network.
use Rattle.std.specs.Prelude.{◌≡◌, ℕ, ◌≤◌, Option, Some, MatchOption, IsSome}
use Rattle.std.specs.FinMap.{FinMap, get}
use Rattle.ipnetwork_family.specs.Network.{Network, Member, Subnet, network_cmp}

-- n has the address of m, and every other address of m's set
abbrev pub HasAll : ℕ → Network → Network → Type 0
HasAll w m n = Member w n m.address × Subnet w m n

-- the network n is stored with the value v and has all addresses of m, and no stored network that has them all has a
-- greater prefix length
pub record IsLongestOver {V : Type 0} (w : ℕ) (t : FinMap network_cmp V) (m n : Network) (v : V) : Type 0 where
  pub stored : get t n ≡ Some v
  pub holds : HasAll w m n
  pub longest : (other : Network) → IsSome (get t other) → HasAll w m other → other.prefix ≤ n.prefix

-- no stored network has all addresses of m
abbrev pub NoneHasAll : {V : Type 0} → ℕ → FinMap network_cmp V → Network → Type 0
NoneHasAll w t m = (n : Network) → IsSome (get t n) → ¬ (HasAll w m n)

-- what is found for m: the longest network and its value, or nothing. `pair` is what a value of the type of networks
-- means
abbrev pub FindsOver : {N V : Type 0} → (N → Network) → ℕ → FinMap network_cmp V → Network → Option (N × V) → Type 0
FindsOver pair w t m found = MatchOption found (NoneHasAll w t m) (λ f. IsLongestOver w t m (pair f.0) f.1)
