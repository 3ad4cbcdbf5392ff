-- The last block that begins at or before an address.
use Rattle.std.specs.Prelude.{ℕ, ◌<◌, ◌≤◌, List, length}
use Rattle.std.proofs.Common.{get_or}
use Rattle.std.specs.List.{Contains}
use Rattle.ipnetwork_family.specs.Network.{Network}

-- each of the blocks begins after the address x
abbrev pub NoneUpTo : List Network → ℕ → Type 0
NoneUpTo blocks x = (b : Network) → Contains blocks b → x < b.address

-- of the blocks that begin at or before the address x, `last` begins last
pub record IsLastUpTo (blocks : List Network) (x : ℕ) (last : Network) : Type 0 where
  pub one : Contains blocks last
  pub begins : last.address ≤ x
  pub others : (b : Network) → Contains blocks b → b.address ≤ x → b.address ≤ last.address

-- the blocks before the index `from` begin at or before the address x, and those from the index `to` on begin after it
pub record IsSplitAt (blocks : List Network) (x from to : ℕ) : Type 0 where
  pub ordered : from ≤ to
  pub within : to ≤ length blocks
  pub below : (k : ℕ) (d : Network) → k < from → (get_or blocks k d).address ≤ x
  pub above : (k : ℕ) (d : Network) → to ≤ k → k < length blocks → x < (get_or blocks k d).address
