use Rattle.cidr_join.proofs.tally_logs.tell_stop.Goals as goal

pub returns-in-Write : goal.returns-in-Write
returns-in-Write g c is = (c.args.errors.now, c.tell_of.ensures)

pub returns-in_default : goal.returns-in_default
returns-in_default g c is = absurd (c.in_default.not-Write is)
