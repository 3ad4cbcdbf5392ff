use Rattle.cidr_join.proofs.Known.{sym, subst, BytesFault, TellsUnread}
use Rattle.cidr_join.proofs.telling.tell_bytes_fault.Goals as goal

pub returns-in-OutOfMemory : goal.returns-in-OutOfMemory
returns-in-OutOfMemory g c = subst (λ (f : BytesFault). TellsUnread f c.tell_of.new.errors) (sym c.in-OutOfMemory.is)
    (c.args.errors.now, c.tell_of.ensures)
