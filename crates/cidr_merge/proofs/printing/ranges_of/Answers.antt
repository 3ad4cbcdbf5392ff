use Rattle.cidr_merge.proofs.Known.{ranges_of}
use Rattle.cidr_merge.proofs.printing.ranges_of.Goals as goal

pub returns : goal.returns
returns g c = ranges_of g.A.Address.WIDTH _ _ _ c.of-blocks.ensures.counted.addresses c.of.ensures
