use Rattle.ipnetwork_sets.proofs.Known.{◌-◌, refl, arith, count_number, all_counted}
use Rattle.ipnetwork_sets.proofs.address_count.AddressCount.add_block.Goals as goal

pub returns-then-host_bits-ge128 : goal.returns-then-host_bits-ge128
returns-then-host_bits-ge128 g c =
    all_counted g.N.CidrNetwork.WIDTH (g.N.CidrNetwork.pair c.args.network).prefix (count_number c.args.self)
    (g.N.CidrNetwork.WIDTH - (g.N.CidrNetwork.pair c.args.network).prefix)
    refl (omega (arith, c.prefix.ensures.made, c.if-host_bits-ge128.true))
