use Rattle.ipnetwork_table.proofs.Known.{◌∙◌, sym, get_or-replicate, none_counted, new_table}
use Rattle.ipnetwork_table.proofs.table.PrefixTable.new.Goals as goal

pub invariant_of-result : goal.invariant_of-result
invariant_of-result g c = rw c.new.ensures (
  new_table g.N.CidrNetwork.WIDTH g.row.V.Denot,
  λ p within. get_or-replicate 256 p 0 0 within ∙ sym (none_counted g.row.V.Denot p),
)
