-- The blocks of one prefix length among the addresses of w bits that are free.
use Rattle.std.specs.Prelude.{◌≡◌, ℕ, ◌<◌, ◌↔◌, List}
use Rattle.std.specs.List.{AllPairs, Contains}
use Rattle.ipnetwork_family.specs.Network.{Network, IsCidrBlock, high}
use Rattle.ipnetwork_blocks.specs.LeastList.{LiesIn}

-- b is a block of prefix length p, and each of its addresses is free
pub record IsFreeBlock (w : ℕ) (free : ℕ → Type 0) (p : ℕ) (b : Network) : Type 0 where
  pub block : IsCidrBlock w b
  pub as_long : b.prefix ≡ p
  pub lies : LiesIn w free b

-- these are all such blocks, in ascending order: each ends before the next one begins
pub record AreFreeBlocks (w : ℕ) (free : ℕ → Type 0) (p : ℕ) (blocks : List Network) : Type 0 where
  pub all : (b : Network) → Contains blocks b ↔ IsFreeBlock w free p b
  pub apart : AllPairs (λ a b. high w a < b.address) blocks
