use Rattle.lists.proofs.Known.{none_before, found_before}
use Rattle.lists.proofs.cutting.before.Goals as goal

pub returns-in-Some : goal.returns-in-Some
returns-in-Some c = found_before c.args.byte c.args.text.now c.in-Some.end c.in-Some.ensures

pub returns-in-None : goal.returns-in-None
returns-in-None c = none_before c.args.byte c.args.text.now c.in-None.ensures
