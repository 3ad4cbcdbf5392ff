use Rattle.ipnetwork_sets.proofs.Known.{ahead_runs}
use Rattle.ipnetwork_sets.proofs.ranges.Ranges.of.Goals as goal

pub returns : goal.returns
returns g c =
    ahead_runs g.N.CidrNetwork.WIDTH g.N.CidrNetwork.pair c.next_block-ahead.result (g.B.SetBlocks.left c.args.blocks)
    (g.B.SetBlocks.left c.next_block-ahead.new.self)
    c.one_block.ensures.apart c.next_block-ahead.ensures.set c.next_block-ahead.ensures.step
