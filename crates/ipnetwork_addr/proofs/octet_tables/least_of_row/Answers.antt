use Rattle.ipnetwork_addr.proofs.Known.{refl, LEAST, row_least, row}
use Rattle.ipnetwork_addr.proofs.octet_tables.least_of_row.Goals as goal

pub returns : goal.returns
returns c = row LEAST row_least 81 refl c.args.row c.args.row c.requires refl
