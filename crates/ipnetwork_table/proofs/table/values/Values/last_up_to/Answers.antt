use Rattle.ipnetwork_table.proofs.Known.{◌∙◌, rules, NoneUpTo, none_up_to, is_last_up_to, value_at}
use Rattle.ipnetwork_table.proofs.table.values.Values.last_up_to.Goals as goal

pub returns-in_err-last-clause-network : goal.returns-in_err-last-clause-network
returns-in_err-last-clause-network g c =
    let none : NoneUpTo c.args.self.now (g.N.CidrNetwork.pair c.args.end) =
    rw (← c.self.view_is)
    (none_up_to g.N.CidrNetwork.pair g.N.Ord.cmp g.met.N.CidrNetwork.network_order c.self.inside.tree c.args.end
    ((c.range.ensures.in_range tt).5 c.in_err-last.ensures.steps.0)) in
    search rules

pub returns-clause-network : goal.returns-clause-network
returns-clause-network g c = rw (← c.self.view_is)
    (is_last_up_to g.N.CidrNetwork.pair g.N.Ord.cmp g.met.N.CidrNetwork.network_order c.self.inside.tree c.args.end
    c.in_ok-last.last.now _
    ((c.range.ensures.in_range tt).3 _ _ c.in_ok-last.ensures.steps).0
    ((c.range.ensures.in_range tt).3 _ _ c.in_ok-last.ensures.steps).1
    ((c.range.ensures.in_range tt).4 _ _ c.in_ok-last.ensures.steps))

pub returns-clause-value : goal.returns-clause-value
returns-clause-value g c = rw (← c.self.view_is)
    (value_at g.N.CidrNetwork.pair g.N.Ord.cmp g.met.N.CidrNetwork.network_order c.self.inside.tree.entries
    c.in_ok-last.last.now
    ∙ ((c.range.ensures.in_range tt).3 _ _ c.in_ok-last.ensures.steps).1)
