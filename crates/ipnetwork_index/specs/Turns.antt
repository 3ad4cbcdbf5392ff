-- Where a set of addresses, or a block of a table, begins and ends.
use Rattle.std.specs.Prelude.{◌≡◌, ℕ, ◌+◌, ◌^◌, ◌<◌, ◌⊎◌, IsSome}
use Rattle.std.specs.FinMap.{FinMap, get}
use Rattle.ipnetwork_family.specs.Network.{Network, low, high, network_cmp}
use Rattle.ipnetwork_sets.specs.Counts.{HasCount}

-- of the numbers x and x + 1 of w bits, one is in the set and the other is not
abbrev pub IsTurn : ℕ → (ℕ → Type 0) → ℕ → Type 0
IsTurn w set x = (x + 1 < 2 ^ w) × ((set x × ¬ (set (x + 1))) ⊎ (¬ (set x) × set (x + 1)))

-- the turns of the set cut the numbers of w bits into n ranges, each entirely inside the set or entirely outside it
abbrev pub CutInto : ℕ → (ℕ → Type 0) → ℕ → Type 0
CutInto w set n = (turns : ℕ) × HasCount (IsTurn w set) turns × (n ≡ turns + 1)

-- a block of the table ends at x, or one begins at x + 1
abbrev pub HasEdge : {V : Type 0} → ℕ → FinMap network_cmp V → ℕ → Type 0
HasEdge w t x = (n : Network) × IsSome (get t n) × ((high w n ≡ x) ⊎ (low w n ≡ x + 1))

-- x is not the greatest number of w bits, and a block of the table ends at x or begins at x + 1
abbrev pub IsEdge : {V : Type 0} → ℕ → FinMap network_cmp V → ℕ → Type 0
IsEdge w t x = (x + 1 < 2 ^ w) × HasEdge w t x

-- the starts and ends of the table's blocks cut the numbers of w bits into n ranges
abbrev pub CutByBlocks : {V : Type 0} → ℕ → FinMap network_cmp V → ℕ → Type 0
CutByBlocks w t n = (edges : ℕ) × HasCount (IsEdge w t) edges × (n ≡ edges + 1)
