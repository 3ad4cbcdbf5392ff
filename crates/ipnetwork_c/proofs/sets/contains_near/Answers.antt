use Rattle.ipnetwork_c.proofs.Known.{set_answered, set_refused}
use Rattle.ipnetwork_c.proofs.sets.contains_near.Goals as goal

pub returns-in-Some : goal.returns-in-Some
returns-in-Some g c = set_answered g.N.CidrNetwork.WIDTH g.H.HoldsNetwork.held c.args.list.now _ _ _ c.in-Some.ensures.0
    c.in-Some.ensures.1

pub returns-in-None : goal.returns-in-None
returns-in-None g c = set_refused g.N.CidrNetwork.WIDTH g.H.HoldsNetwork.held c.args.list.now _ _ c.in-None.ensures
