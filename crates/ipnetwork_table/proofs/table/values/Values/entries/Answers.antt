use Rattle.ipnetwork_table.proofs.Known.{◌∙◌, ap, by_pair, listed}
use Rattle.ipnetwork_table.proofs.table.values.Values.entries.Goals as goal

pub returns : goal.returns
returns g c = rw (← c.self.view_is)
    (ap (by_pair g.N.CidrNetwork.pair) (c.new.ensures ∙ c.iter.ensures.rest)
    ∙ listed g.N.CidrNetwork.pair g.N.Ord.cmp g.met.N.CidrNetwork.network_order c.self.inside.tree.entries
    c.iter.ensures.ordered)
