use Rattle.ipnetwork_table.proofs.Known.{◌∙◌, sym, get_or-replicate, none_counted, new_table}
use Rattle.ipnetwork_table.proofs.table.PrefixTable.clear.Goals as goal

pub invariant_of-self : goal.invariant_of-self
invariant_of-self g c = rw c.clear.ensures (
  new_table g.N.CidrNetwork.WIDTH g.row.V.Denot,
  λ p within. get_or-replicate 256 p 0 0 within ∙ sym (none_counted g.row.V.Denot p),
)
