use Rattle.ipnetwork_table.proofs.Known.{◌≡◌, ◌∙◌, sym, None, rules, get, value_at, inserted}
use Rattle.ipnetwork_table.proofs.table.values.Values.insert.Goals as goal

pub returns-in_err-insert-clause-absent : goal.returns-in_err-insert-clause-absent
returns-in_err-insert-clause-absent g c =
    let new : get c.args.self.now (g.N.CidrNetwork.pair c.args.key) ≡ None =
    rw (← c.self.view_is)
    (value_at g.N.CidrNetwork.pair g.N.Ord.cmp g.met.N.CidrNetwork.network_order c.self.inside.tree.entries c.args.key
    ∙ c.in_err-insert.ensures.absent) in
    search rules

pub returns-clause-old : goal.returns-clause-old
returns-clause-old g c = rw (← c.self.view_is)
    (c.in_ok-insert.ensures.old
    ∙ sym (value_at g.N.CidrNetwork.pair g.N.Ord.cmp g.met.N.CidrNetwork.network_order c.self.inside.tree.entries
    c.args.key))

pub returns-clause-set : goal.returns-clause-set
returns-clause-set g c = rw (← c.self.view_is)
    (inserted g.N.CidrNetwork.pair g.N.Ord.cmp g.met.N.CidrNetwork.network_order c.self.inside.tree.entries
    c.insert.new.self.entries
    c.args.key c.args.value c.in_ok-insert.ensures.entries)
