use Rattle.allotting.proofs.Known.{InFirstAlone, InUnion, are_free, free_in_same, least_is_set, pieces_in}
use Rattle.allotting.proofs.free.free_blocks.Goals as goal

pub returns : goal.returns
returns g c =
    let w = g.N.CidrNetwork.WIDTH in
    let p = c.args.prefix in
    let free = InFirstAlone w c.args.pool.now c.args.used.now in
    let left = c.difference-blocks.result in
    let short = c.shortest.ensures.difference w c.args.pool.now c.args.used.now left c.difference-blocks.ensures in
    free_in_same w p (InUnion w left) free (pieces_in w p left) short.addresses
    (are_free w p left c.one_block.ensures.networks c.one_block.ensures.apart
    (least_is_set w free left c.difference-blocks.ensures short))
