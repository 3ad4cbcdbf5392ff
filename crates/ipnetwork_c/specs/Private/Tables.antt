-- The order in which places are sorted.
use Rattle.std.specs.Prelude.{ℕ, List}
use Rattle.std.specs.Ordering.{nat_cmp, on, then_cmp}
use Rattle.std.specs.declared.cmp.Ordering.{Ordering}
use Rattle.ipnetwork_family.specs.Network.{Network, network_cmp}
use Rattle.ipnetwork_c.specs.Tables.{row_block}

-- by the blocks of the networks at the two places, and then by the places themselves
abbrev pub place_cmp : ℕ → List Network → ℕ → ℕ → Ordering
place_cmp w networks = then_cmp (on (row_block w networks) network_cmp) nat_cmp
