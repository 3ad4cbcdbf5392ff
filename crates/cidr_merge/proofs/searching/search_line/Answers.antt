use Rattle.cidr_merge.proofs.Known.{false, subst, matches_by, sought_in, TellsFound, tells_none}
use Rattle.cidr_merge.proofs.searching.search_line.Goals as goal

pub returns-in-Err-clause-printed : goal.returns-in-Err-clause-printed
returns-in-Err-clause-printed g c =
    let line = c.args.line.now in
    subst (λ said. TellsFound (matches_by (sought_in c.args.query.now) line.name.now line.number
    line.text.now said) c.args.output.now c.args.output.now false) c.in-Err.ensures
    (tells_none c.args.output.now)
