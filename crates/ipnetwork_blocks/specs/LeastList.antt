-- Sets of w-bit addresses, and the least list of blocks that cover exactly the addresses of a set.
use Rattle.std.specs.Prelude.{ℕ, ◌<◌, ◌↔◌, List}
use Rattle.std.specs.List.{AllPairs, Contains}
use Rattle.ipnetwork_family.specs.Network.{Network, IsNetwork, HostBitsAreZero, Member, Subnet}

-- every address of the network is in the set
abbrev pub LiesIn : ℕ → (ℕ → Type 0) → Network → Type 0
LiesIn w set n = (x : ℕ) → Member w n x → set x

-- the block is maximal within the set: it lies in the set, and no network with a shorter prefix length that contains it
-- does
pub record IsMaximalIn (w : ℕ) (set : ℕ → Type 0) (b : Network) : Type 0 where
  pub network : IsNetwork w b
  pub block : HostBitsAreZero w b
  pub lies : LiesIn w set b
  pub maximal : (n : Network) → IsNetwork w n → n.prefix < b.prefix → Subnet w b n → ¬ (LiesIn w set n)

-- the list contains exactly the maximal blocks of the set, in ascending order
pub record IsLeastList (w : ℕ) (set : ℕ → Type 0) (blocks : List Network) : Type 0 where
  pub maximal : (b : Network) → Contains blocks b ↔ IsMaximalIn w set b
  pub ascending : AllPairs (λ a b. a.address < b.address) blocks
