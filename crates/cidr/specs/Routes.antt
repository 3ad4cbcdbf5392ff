-- The routes that a run keeps: a number for each of a set of blocks, in each family.
use Rattle.std.specs.Prelude.{ℕ, Option}
use Rattle.std.specs.FinMap.{FinMap, empty, get, insert, remove}
use Rattle.ipnetwork_family.specs.Network.{block_of, network_cmp}
use Rattle.ipnetwork.specs.declared.ip_network.IpNetwork.{IpNetwork}
use Rattle.ipnetwork.specs.declared.ip_network.IpNetwork.TheVariants.{V4, V6}

-- two finite maps from blocks to numbers, one for each family
pub record Routes : Type 0 where
  pub v4 : FinMap network_cmp ℕ
  pub v6 : FinMap network_cmp ℕ

-- the routes at the start of a run
abbrev pub no_routes : Routes
no_routes = record { v4 = empty; v6 = empty }

-- the number of the network's block, if it has one
abbrev pub number_at : Routes → IpNetwork → Option ℕ
number_at routes (V4 network) = get routes.v4 (block_of 32 network)
number_at routes (V6 network) = get routes.v6 (block_of 128 network)

-- the same routes, but the network's block has this number
abbrev pub with_number : Routes → IpNetwork → ℕ → Routes
with_number routes (V4 network) number = record { v4 = insert routes.v4 (block_of 32 network) number; v6 = routes.v6 }
with_number routes (V6 network) number = record { v4 = routes.v4; v6 = insert routes.v6 (block_of 128 network) number }

-- the same routes, but the network's block has no number
abbrev pub without : Routes → IpNetwork → Routes
without routes (V4 network) = record { v4 = remove routes.v4 (block_of 32 network); v6 = routes.v6 }
without routes (V6 network) = record { v4 = routes.v4; v6 = remove routes.v6 (block_of 128 network) }
