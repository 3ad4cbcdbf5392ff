use Rattle.ipnetwork_table.proofs.Known.{◌∙◌, sym, value_at}
use Rattle.ipnetwork_table.proofs.table.values.Values.probe.Goals as goal

pub returns-clause-found : goal.returns-clause-found
returns-clause-found g c = rw (← c.self.view_is)
    (c.copied.ensures ∙ c.get.ensures.value
    ∙ sym (value_at g.N.CidrNetwork.pair g.N.Ord.cmp g.met.N.CidrNetwork.network_order c.self.inside.tree.entries
    c.args.key))
