use Rattle.cidr_filter.proofs.Known.{◌∙◌, sym, head_of, no_text, puts_none, spelled_at}
use Rattle.cidr_filter.proofs.printing_addresses.OfLine.print_found.Goals as goal

pub returns-then-not-prints : goal.returns-then-not-prints
returns-then-not-prints g c =
    puts_none tt c.args.output.now _
    (no_text c.args.self.now.filter.now (head_of c.args.self.now.filter.now c.args.self.now.number)
    (spelled_at c.args.line.now c.args.found.now) (sym c.prints.ensures ∙ c.if-not-prints.true))
