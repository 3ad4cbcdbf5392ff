use Rattle.ipnetwork_c.proofs.Known.{arith, refl, NoPrefix, v4_told, v6_told}
use Rattle.ipnetwork_c.proofs.structs.IpInC.network.Goals as goal

pub returns-in-None : goal.returns-in-None
returns-in-None c = NoPrefix _ (v4_told c.args.self.now c.if-self-eq-V4.true) c.in-None.ensures refl

pub returns-in-None-network : goal.returns-in-None-network
returns-in-None-network c = NoPrefix _ (v6_told c.args.self.now (omega (arith, c.if-self-ne-V6.false)))
    c.in-None-network.ensures refl
