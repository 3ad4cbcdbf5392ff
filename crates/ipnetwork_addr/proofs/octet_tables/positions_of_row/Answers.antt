use Rattle.ipnetwork_addr.proofs.Known.{refl, PLACES, row_positions, row}
use Rattle.ipnetwork_addr.proofs.octet_tables.positions_of_row.Goals as goal

pub returns : goal.returns
returns c = row PLACES row_positions 81 refl c.args.row c.args.row c.requires refl
