-- The longest run of zero groups, which the printer searches for.
use Rattle.std.specs.Prelude.{ℕ, ◌<◌, ◌≤◌, List}
use Rattle.ipnetwork_addr.specs.Ipv6Canonical.{IsZeroRun}

-- a run of n zero groups from index i on, such that none is longer, and none of the same length begins earlier; n is 0
-- if no group is zero
pub record IsLongestRun (groups : List ℕ) (i n : ℕ) : Type 0 where
  pub zeros : IsZeroRun groups i n
  pub longest : (j m : ℕ) → IsZeroRun groups j m → m ≤ n
  pub leftmost : (j : ℕ) → 0 < n → IsZeroRun groups j n → i ≤ j
