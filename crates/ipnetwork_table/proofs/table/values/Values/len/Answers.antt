use Rattle.ipnetwork_table.proofs.Known.{◌∙◌, counted}
use Rattle.ipnetwork_table.proofs.table.values.Values.len.Goals as goal

pub returns : goal.returns
returns g c = rw (← c.self.view_is)
    (c.len.ensures.len ∙ counted g.N.CidrNetwork.pair g.N.Ord.cmp g.met.N.CidrNetwork.network_order
    c.self.inside.tree.entries c.len.ensures.ordered)
