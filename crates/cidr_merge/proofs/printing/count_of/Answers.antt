use Rattle.cidr_merge.proofs.Known.{count_number, IsLeft, blocks_left, count_is}
use Rattle.cidr_merge.proofs.printing.count_of.Goals as goal

pub returns : goal.returns
returns g c =
    let w = g.A.Address.WIDTH in
    count_is w c.text.result.bytes (IsLeft c.args.operation w c.args.first.now c.args.second.now)
    (blocks_left c.of-blocks.result) c.of-counts.result.blocks (count_number c.of-counts.result.addresses)
    c.of-blocks.ensures.left c.of-blocks.ensures.counted c.requires.some c.requires.bits c.of-counts.ensures.blocks
    c.of-counts.ensures.addresses c.text.ensures
