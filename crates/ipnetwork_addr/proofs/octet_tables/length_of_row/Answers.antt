use Rattle.ipnetwork_addr.proofs.Known.{refl, ◌∙◌, LENGTHS, end_of, entry}
use Rattle.ipnetwork_addr.proofs.octet_tables.length_of_row.Goals as goal

pub returns : goal.returns
returns c = c.from.ensures ∙ entry LENGTHS end_of 81 refl c.args.row c.args.row c.requires refl
