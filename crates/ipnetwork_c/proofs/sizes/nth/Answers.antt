use Rattle.ipnetwork_c.proofs.Known.{◌<◌, length, arith, members, ends_apart, nth_from_least}
use Rattle.ipnetwork_c.proofs.sizes.nth.Goals as goal

pub returns : goal.returns
returns g c =
    let apart = ends_apart g.A.Address.WIDTH c.args.network.now in
    let below : c.args.n < length (members g.A.Address.WIDTH c.args.network.now) =
    omega (arith, apart, c.if-n-greatest.false, c.ends-least.ensures.least, c.ends-least.ensures.greatest) in
    nth_from_least _ _ _ _ below (omega (arith, c.from_number.ensures, c.ends-least.ensures.least))
