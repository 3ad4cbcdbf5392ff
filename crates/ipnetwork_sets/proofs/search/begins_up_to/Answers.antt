use Rattle.ipnetwork_sets.proofs.Known.{at_most, told}
use Rattle.ipnetwork_sets.proofs.search.begins_up_to.Goals as goal

pub returns : goal.returns
returns g c = told _ _ _ (rw c.ip.ensures.made at
    (at_most g.N.Addr.PartialOrd.partial_cmp g.N.Addr.Ord.cmp g.N.CidrNetwork.number
    g.met.N.Addr.Ord.matches_partial_cmp g.met.N.CidrNetwork.address_order c.ip.result c.args.addr c.le.result
    c.le.ensures))
