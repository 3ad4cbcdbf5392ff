use Rattle.ipnetwork_blocks.proofs.Known.{ℕ, sym, subst, Network, IsNetwork, HostBitsAreZero, block_fits_too, block_begins, block_made}
use Rattle.ipnetwork_blocks.proofs.supernets.block.Goals as goal

pub returns-clause-made : goal.returns-clause-made
returns-clause-made g c =
    block_made g.N.CidrNetwork.WIDTH (g.N.CidrNetwork.number c.ip.result) c.prefix.result
    (g.N.CidrNetwork.pair c.args.network) (g.N.CidrNetwork.pair c.in-Some.block)
    c.ip.ensures.made c.prefix.ensures.made c.in-Some.ensures.cases.1

pub returns-clause-no_host_bits : goal.returns-clause-no_host_bits
returns-clause-no_host_bits g c =
    let w : ℕ = g.N.CidrNetwork.WIDTH in
    let n : Network = g.N.CidrNetwork.pair c.args.network in
    let made = block_made w (g.N.CidrNetwork.number c.ip.result) c.prefix.result n
    (g.N.CidrNetwork.pair c.in-Some.block) c.ip.ensures.made c.prefix.ensures.made c.in-Some.ensures.cases.1 in
    subst (λ (b : Network). HostBitsAreZero w b) (sym made) (block_begins w n)

pub returns-clause-network : goal.returns-clause-network
returns-clause-network g c =
    let w : ℕ = g.N.CidrNetwork.WIDTH in
    let n : Network = g.N.CidrNetwork.pair c.args.network in
    let made = block_made w (g.N.CidrNetwork.number c.ip.result) c.prefix.result n
    (g.N.CidrNetwork.pair c.in-Some.block) c.ip.ensures.made c.prefix.ensures.made c.in-Some.ensures.cases.1 in
    subst (IsNetwork w) (sym made) (block_fits_too w n c.ip.ensures.network)
