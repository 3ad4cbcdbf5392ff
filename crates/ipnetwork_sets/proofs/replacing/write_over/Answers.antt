use Rattle.ipnetwork_sets.proofs.Known.{arith, writing_starts, writing_goes_on, writing_ends, next_fits}
use Rattle.ipnetwork_sets.proofs.replacing.write_over.Goals as goal

pub loop-next-init : goal.loop-next-init
loop-next-init g c = writing_starts g.N.CidrNetwork.pair c.args.blocks.now c.args.from c.args.others

pub loop-next-preserved : goal.loop-next-preserved
loop-next-preserved g c =
    writing_goes_on g.N.CidrNetwork.pair c.args.blocks.now c.args.from c.args.others c.loop-next.blocks c.loop-next.next
    c.loop-next.others c.next.new.self c.in-Some.block
    c.requires c.loop-next.invariant c.in-Some.ensures.steps

pub returns : goal.returns
returns g c =
    writing_ends g.N.CidrNetwork.pair c.args.blocks.now c.args.from c.args.others c.loop-next.blocks c.loop-next.next
    c.loop-next.others c.loop-next.invariant c.in_default.ensures.steps.0

pub bounds-blocks-next : goal.bounds-blocks-next
bounds-blocks-next g c = next_fits g.N.CidrNetwork.pair c.args.blocks.now c.args.from c.args.others c.loop-next.blocks
    c.loop-next.next c.loop-next.others c.next.new.self c.in-Some.block
    c.requires c.loop-next.invariant c.in-Some.ensures.steps

pub overflow_add-next : goal.overflow_add-next
overflow_add-next g c =
    let fits = next_fits g.N.CidrNetwork.pair c.args.blocks.now c.args.from c.args.others c.loop-next.blocks
    c.loop-next.next c.loop-next.others c.next.new.self c.in-Some.block
    c.requires c.loop-next.invariant c.in-Some.ensures.steps in
    omega (arith, fits)
