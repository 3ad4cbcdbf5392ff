use Rattle.lists.proofs.Known.{good_entry}
use Rattle.lists.proofs.list_reader.ListReader.take_line.Goals as goal

pub take_allowed-requires : goal.take_allowed-requires
take_allowed-requires c =
    good_entry _ _ c.args.line.now c.in-Ok-Some.entry (rw c.in-Ok-Some.field-0-is at c.in-Ok-Some.ensures)
