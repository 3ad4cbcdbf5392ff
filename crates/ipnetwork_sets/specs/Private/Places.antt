-- The indices of the blocks of a set that change with a network, and the room made for new blocks.
use Rattle.std.specs.Prelude.{◌≡◌, ℕ, ◌+◌, ◌-◌, ◌<◌, ◌≤◌, List, length, take, drop}
use Rattle.std.proofs.Common.{get_or}
use Rattle.ipnetwork_family.specs.Network.{Network, Overlap, low, high}
use Rattle.ipnetwork_blocks.specs.Supernets.{parent}
use Rattle.ipnetwork_blocks.specs.Private.Joining.{AreHalves}

-- the blocks before the index `from` end before the network begins, and the others do not
pub record IsBefore (w : ℕ) (blocks : List Network) (n : Network) (from : ℕ) : Type 0 where
  pub within : from ≤ length blocks
  pub before : (k : ℕ) (d : Network) → k < from → high w (get_or blocks k d) < low w n
  pub others : (k : ℕ) (d : Network) → from ≤ k → k < length blocks → low w n ≤ high w (get_or blocks k d)

-- the blocks at the indices `from..to` share an address with the network; those before end before it begins, and those
-- after begin after it ends
pub record IsPlace (w : ℕ) (blocks : List Network) (n : Network) (from to : ℕ) : Type 0 where
  pub ordered : from ≤ to
  pub within : to ≤ length blocks
  pub before : (k : ℕ) (d : Network) → k < from → high w (get_or blocks k d) < low w n
  pub shared : (k : ℕ) (d : Network) → from ≤ k → k < to → Overlap w (get_or blocks k d) n
  pub behind : (k : ℕ) (d : Network) → to ≤ k → k < length blocks → high w n < (get_or blocks k d).address

-- there is no block before the index, or it and this block are not the two halves of one block
abbrev pub NoHalfBefore : ℕ → List Network → ℕ → Network → Type 0
NoHalfBefore w blocks first b = (d : Network) → 0 < first → ¬ (AreHalves w (get_or blocks (first - 1) d) b)

-- the block before the index and this block are the halves of the wider block
pub record JoinsBefore (w : ℕ) (blocks : List Network) (first : ℕ) (b wider : Network) : Type 0 where
  pub some : 0 < first
  pub halves : (d : Network) → AreHalves w (get_or blocks (first - 1) d) b
  pub joined : (d : Network) → wider ≡ parent w (get_or blocks (first - 1) d)

-- there is no block at the index, or this block and it are not the two halves of one block
abbrev pub NoHalfBehind : ℕ → List Network → Network → ℕ → Type 0
NoHalfBehind w blocks b behind = (d : Network) → behind < length blocks → ¬ (AreHalves w b (get_or blocks behind d))

-- this block and the block at the index are the halves of the wider block
pub record JoinsBehind (w : ℕ) (blocks : List Network) (b : Network) (behind : ℕ) (wider : Network) : Type 0 where
  pub some : behind < length blocks
  pub halves : (d : Network) → AreHalves w b (get_or blocks behind d)
  pub joined : wider ≡ parent w b

-- the elements at the indices `from..to` are replaced by `count` elements of any value, and the others are unchanged
pub record HasRoom {X : Type 0} (before : List X) (from to count : ℕ) (after : List X) : Type 0 where
  pub size : length after + to ≡ length before + (from + count)
  pub front : take from after ≡ take from before
  pub back : drop (from + count) after ≡ drop to before
