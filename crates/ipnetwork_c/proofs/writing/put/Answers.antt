use Rattle.ipnetwork_c.proofs.Known.{arith, block_put}
use Rattle.ipnetwork_c.proofs.writing.put.Goals as goal

pub returns : goal.returns
returns g c = λ blocks start next told h.
    block_put g.H.HoldsNetwork.held blocks start c.args.list.now c.args.count next c.holding.result
    (g.N.CidrNetwork.pair c.args.block) h (omega arith) (omega arith) c.holding.ensures.1 told
