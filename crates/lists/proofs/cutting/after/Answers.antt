use Rattle.lists.proofs.Known.{◌+◌, ◌∙◌, none_after, found_after, rest_of}
use Rattle.lists.proofs.cutting.after.Goals as goal

pub returns-in-Some : goal.returns-in-Some
returns-in-Some c =
    rest_of c.args.text.now (c.in-Some.end + 1) ∙ found_after c.args.byte c.args.text.now c.in-Some.end c.in-Some.ensures

pub returns-in-None : goal.returns-in-None
returns-in-None c = none_after c.args.byte c.args.text.now c.in-None.ensures
