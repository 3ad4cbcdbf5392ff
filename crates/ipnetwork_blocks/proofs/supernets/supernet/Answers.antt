use Rattle.ipnetwork_blocks.proofs.Known.{arith, supernet_answer}
use Rattle.ipnetwork_blocks.proofs.supernets.supernet.Goals as goal

pub returns : goal.returns
returns g c = supernet_answer g.N.CidrNetwork.WIDTH (g.N.CidrNetwork.pair c.args.network) g.N.CidrNetwork.pair
    c.block.result (g.N.CidrNetwork.number c.ip.result) c.args.prefix
    c.ip.ensures.network c.ip.ensures.made (omega (arith, c.if-prefix.false, c.prefix.ensures.made))
    c.block.ensures.cases
