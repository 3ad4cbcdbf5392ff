use Rattle.allotting.proofs.Known.{next_at_hand}
use Rattle.allotting.proofs.free.next_pieces.Goals as goal

pub returns-in-Some-subnets : goal.returns-in-Some-subnets
returns-in-Some-subnets g c =
    next_at_hand g.N.CidrNetwork.WIDTH c.args.prefix c.args.blocks.now c.loop-block.blocks c.next.new.self
    c.in-Some-subnets.pieces (g.N.CidrNetwork.pair c.in-Some.block) c.loop-block.invariant c.in-Some.ensures.steps
    c.in-Some-subnets.ensures
