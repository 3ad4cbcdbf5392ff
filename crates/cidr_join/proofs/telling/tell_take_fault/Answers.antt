use Rattle.cidr_join.proofs.Known.{sym, subst, TellsUntaken, RouteFault}
use Rattle.cidr_join.proofs.telling.tell_take_fault.Goals as goal

pub returns-in-OutOfMemory : goal.returns-in-OutOfMemory
returns-in-OutOfMemory g c = subst (λ (f : RouteFault). TellsUntaken f c.tell_of.new.errors) (sym c.in-OutOfMemory.is)
    (c.args.errors.now, c.tell_of.ensures)
