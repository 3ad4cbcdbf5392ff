-- The blocks of a list of networks as the entries of a table.
use Rattle.std.specs.Prelude.{◌≡◌, ◌↔◌, ℕ, List, map}
use Rattle.std.proofs.Common.{T}
use Rattle.std.specs.List.{All, Contains}
use Rattle.std.specs.FinMap.{is_sorted}
use Rattle.ipnetwork_family.specs.Network.{Network, IsCidrBlock, block_of, network_cmp}

-- the entries are the blocks of the networks, each block once and with this value, in the order of networks
pub record AreListedBlocks {V : Type 0} (w : ℕ) (networks : List Network) (value : V)
    (es : List (Network × V)) : Type 0 where
  pub keys : List Network
  pub own : es ≡ map (λ n. (n, value)) keys
  pub sorted : T (is_sorted network_cmp es)
  pub are_blocks : All (IsCidrBlock w) keys
  pub all : (n : Network) → Contains keys n
      ↔ ((m : Network) × Contains networks m × (block_of w m ≡ n))
