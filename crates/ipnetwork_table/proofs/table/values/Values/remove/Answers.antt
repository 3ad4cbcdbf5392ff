use Rattle.ipnetwork_table.proofs.Known.{◌∙◌, sym, value_at, removed}
use Rattle.ipnetwork_table.proofs.table.values.Values.remove.Goals as goal

pub returns-clause-old : goal.returns-clause-old
returns-clause-old g c = rw (← c.self.view_is)
    (c.remove.ensures.value
    ∙ sym (value_at g.N.CidrNetwork.pair g.N.Ord.cmp g.met.N.CidrNetwork.network_order c.self.inside.tree.entries
    c.args.key))

pub returns-clause-removed : goal.returns-clause-removed
returns-clause-removed g c = rw (← c.self.view_is)
    (removed g.N.CidrNetwork.pair g.N.Ord.cmp g.met.N.CidrNetwork.network_order c.self.inside.tree.entries
    c.remove.new.self.entries
    c.args.key c.remove.ensures.entries c.remove.ensures.updates.1)
