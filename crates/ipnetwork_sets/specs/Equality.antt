-- Equality of sets, as equality of their lists of blocks.
use Rattle.std.specs.Prelude.{Bool, List}
use Rattle.std.specs.Ordering.{nat_cmp, on, then_cmp, eq_by_cmp}
use Rattle.std.specs.Cmp.Lexicographic.{pointwise}
use Rattle.ipnetwork_family.specs.Network.{Network}

-- whether two networks have the same address and the same prefix length
abbrev pub same_network : Network → Network → Bool
same_network = eq_by_cmp (then_cmp (on (λ n. n.address) nat_cmp) (on (λ n. n.prefix) nat_cmp))

-- whether two lists have the same networks in the same order
abbrev pub same_blocks : List Network → List Network → Bool
same_blocks a b = pointwise same_network a b
