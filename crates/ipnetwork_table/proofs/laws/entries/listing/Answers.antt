use Rattle.ipnetwork_table.proofs.Known.{listed_is_stored, stored_is_listed, entries_ascend, wider_first}
use Rattle.ipnetwork_table.proofs.laws.entries.listing.Goals as goal

pub returns : goal.returns
returns g c = record
    { stored = listed_is_stored; listed = stored_is_listed; ascending = entries_ascend; wider_first = wider_first }
