use Rattle.ipnetwork_table.proofs.Known.{computed_answers}
use Rattle.ipnetwork_table.proofs.laws.lookups.answer_is_computed.Goals as goal

pub returns : goal.returns
returns g c = computed_answers g.row.V.Denot c.membership_is_computed.ensures
