-- Blocks of a given prefix length that have no address in a set.
use Rattle.std.specs.Prelude.{◌≡◌, ℕ, ◌≤◌, List}
use Rattle.ipnetwork_family.specs.Network.{Network, IsCidrBlock, Subnet}
use Rattle.ipnetwork_sets.specs.Sets.{MeetsUnion}

-- b is a block of prefix length p within n, and none of its addresses is in the union of the networks
pub record IsFreeBlock (w : ℕ) (n : Network) (networks : List Network) (p : ℕ) (b : Network) : Type 0 where
  pub block : IsCidrBlock w b
  pub as_long : b.prefix ≡ p
  pub within : Subnet w b n
  pub free : ¬ (MeetsUnion w b networks)

-- n has no free block of prefix length p
abbrev pub NoBlockIsFree : ℕ → Network → List Network → ℕ → Type 0
NoBlockIsFree w n networks p = (b : Network) → ¬ (IsFreeBlock w n networks p b)

-- b is the first free block of prefix length p within n: no other begins before it
pub record IsFirstFree (w : ℕ) (n : Network) (networks : List Network) (p : ℕ) (b : Network) : Type 0 where
  pub one : IsFreeBlock w n networks p b
  pub first : (other : Network) → IsFreeBlock w n networks p other → b.address ≤ other.address
