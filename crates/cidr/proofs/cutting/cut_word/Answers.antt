use Rattle.cidr.proofs.Known.{none_behind, cut_behind, no_cut}
use Rattle.cidr.proofs.cutting.cut_word.Goals as goal

pub returns-in-None : goal.returns-in-None
returns-in-None c = no_cut _ (none_behind 32 c.args.line.now c.args.from c.in-None.ensures)

pub returns-in-Some : goal.returns-in-Some
returns-in-Some c = cut_behind c.args.line.now c.args.from c.in-Some.end c.in-Some.ensures
