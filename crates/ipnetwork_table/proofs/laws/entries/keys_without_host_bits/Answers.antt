use Rattle.ipnetwork_table.proofs.Known.{none_at_first, one_more, one_less}
use Rattle.ipnetwork_table.proofs.laws.entries.keys_without_host_bits.Goals as goal

pub returns-clause-empty : goal.returns-clause-empty
returns-clause-empty g c = none_at_first g.row.V.Denot

pub returns-clause-insert : goal.returns-clause-insert
returns-clause-insert g c = λ w t n v. one_more w t n v (c.blocks-2.ensures.no_host_bits w n)

pub returns-clause-remove : goal.returns-clause-remove
returns-clause-remove g c = one_less
