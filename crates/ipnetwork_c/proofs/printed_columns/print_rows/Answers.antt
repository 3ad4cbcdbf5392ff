use Rattle.ipnetwork_c.proofs.Known.{refl, Nothing}
use Rattle.ipnetwork_c.proofs.printed_columns.print_rows.Goals as goal

pub returns-then-fault-ne-OK : goal.returns-then-fault-ne-OK
returns-then-fault-ne-OK g c = Nothing (c.first_fault-fault.ensures.one c.if-fault-ne-OK.true) refl
