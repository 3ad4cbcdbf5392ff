use Rattle.ipnetwork_sets.proofs.Known.{iff_false, run_starts, run_goes_on, run_is_last, run_ends}
use Rattle.ipnetwork_sets.proofs.ranges.last_of_run.Goals as goal

pub loop-block-init : goal.loop-block-init
loop-block-init g c = run_starts g.N.CidrNetwork.WIDTH (g.N.CidrNetwork.pair c.args.first)
    (g.B.SetBlocks.left c.args.blocks.now) c.requires

pub returns-in_default-clause-run : goal.returns-in_default-clause-run
returns-in_default-clause-run g c =
    run_is_last g.N.CidrNetwork.WIDTH (g.N.CidrNetwork.pair c.args.first) (g.B.SetBlocks.left c.args.blocks.now)
    (g.N.CidrNetwork.pair c.loop-block.last) (g.B.SetBlocks.left c.loop-block.blocks)
    c.loop-block.invariant c.in_default.ensures.step.0

pub returns-then-not-touches-clause-run : goal.returns-then-not-touches-clause-run
returns-then-not-touches-clause-run g c =
    run_ends g.N.CidrNetwork.WIDTH (g.N.CidrNetwork.pair c.args.first) (g.B.SetBlocks.left c.args.blocks.now)
    (g.N.CidrNetwork.pair c.loop-block.last)
    (g.N.CidrNetwork.pair c.in-Some.block) (g.B.SetBlocks.left c.loop-block.blocks)
    (g.B.SetBlocks.left c.next_block.new.self) c.one_block.ensures.apart
    c.loop-block.invariant c.in-Some.ensures.step (iff_false c.touches.ensures c.if-not-touches.true)

pub loop-block-preserved : goal.loop-block-preserved
loop-block-preserved g c =
    run_goes_on g.N.CidrNetwork.WIDTH (g.N.CidrNetwork.pair c.args.first) (g.B.SetBlocks.left c.args.blocks.now)
    (g.N.CidrNetwork.pair c.loop-block.last)
    (g.N.CidrNetwork.pair c.in-Some.block) (g.B.SetBlocks.left c.loop-block.blocks)
    (g.B.SetBlocks.left c.next_block.new.self) c.one_block.ensures.apart
    c.loop-block.invariant c.in-Some.ensures.step (c.touches.ensures.0 c.if-not-touches.false)
