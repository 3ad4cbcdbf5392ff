use Rattle.ipnetwork_c.proofs.Known.{ℕ, sym, subst, arith, Network, IsCidrBlock, block_at_network}
use Rattle.ipnetwork_c.proofs.table_making.block_in.Goals as goal

pub returns-clause-block : goal.returns-clause-block
returns-clause-block g c =
    let w : ℕ = g.N.CidrNetwork.WIDTH in
    let is = c.prefix.ensures.made in
    let fits = c.prefix.ensures.network.prefix_fits in
    subst (λ (n : Network). IsCidrBlock w n) (sym c.block_at.ensures.made) (block_at_network w
    (g.N.CidrNetwork.number c.ip.result) c.prefix.result c.block_at.ensures.address (omega arith))
