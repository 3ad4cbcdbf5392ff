use Rattle.ipnetwork_sets.proofs.Known.{arith, iff_false, parent_made}
use Rattle.ipnetwork_sets.proofs.joining.join.Goals as goal

pub returns-then-not-are_halves : goal.returns-then-not-are_halves
returns-then-not-are_halves g c = iff_false c.are_halves.ensures c.if-not-are_halves.true

pub overflow_sub-prefix : goal.overflow_sub-prefix
overflow_sub-prefix g c =
    let halves = c.are_halves.ensures.0 c.if-not-are_halves.false in
    let longer = halves.1 in
    omega (arith, longer, c.prefix.ensures.made)

pub block_at-requires : goal.block_at-requires
block_at-requires g c =
    let fits = c.prefix.ensures.network.prefix_fits in
    omega (arith, fits, c.prefix.ensures.made)

pub returns : goal.returns
returns g c = (
  c.are_halves.ensures.0 c.if-not-are_halves.false,
  parent_made g.N.CidrNetwork.WIDTH (g.N.CidrNetwork.number c.ip.result) c.prefix.result
      (g.N.CidrNetwork.pair c.args.first) (g.N.CidrNetwork.pair c.block_at.result)
      c.ip.ensures.made c.prefix.ensures.made c.block_at.ensures.made,
)
