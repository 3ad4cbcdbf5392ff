use Rattle.cidr_merge.proofs.Known.{count_number, blocks_left, counted_are}
use Rattle.cidr_merge.proofs.held_back.count_alone.Goals as goal

pub returns : goal.returns
returns g c =
    counted_are g.A.Address.WIDTH _ (blocks_left c.of-blocks.result) (count_number c.of-counts.result.addresses)
    c.of-blocks.ensures.counted c.requires c.of-counts.ensures.addresses
