use Rattle.ipnetwork_sets.proofs.Known.{arith, passing_goes_on, none_free, answers}
use Rattle.ipnetwork_sets.proofs.address_set.AddressSet.first_free.Goals as goal

pub returns-then-prefix : goal.returns-then-prefix
returns-then-prefix g c =
    answers g.N.CidrNetwork.WIDTH (g.N.CidrNetwork.pair c.args.network) c.args.self.now c.free_in-free.result
    c.args.prefix c.one_block.ensures.networks c.free_in-free.ensures
    c.loop-piece.free c.next.new.self (g.N.CidrNetwork.pair c.in-Some.piece) g.N.CidrNetwork.pair c.block.result
    (g.N.CidrNetwork.number c.ip.result) c.loop-piece.invariant
    c.in-Some.ensures.steps (omega (arith, c.prefix.ensures.made)) c.ip.ensures.made c.block.ensures.cases

pub loop-piece-preserved : goal.loop-piece-preserved
loop-piece-preserved g c =
    passing_goes_on c.free_in-free.result c.args.prefix c.loop-piece.free c.next.new.self
    (g.N.CidrNetwork.pair c.in-Some.piece) c.loop-piece.invariant c.in-Some.ensures.steps
    (omega (arith, c.prefix.ensures.made))

pub returns : goal.returns
returns g c =
    none_free g.N.CidrNetwork.WIDTH (g.N.CidrNetwork.pair c.args.network) c.args.self.now c.free_in-free.result
    c.args.prefix c.one_block.ensures.networks c.free_in-free.ensures
    c.loop-piece.free c.loop-piece.invariant c.in_default.ensures.steps.0
