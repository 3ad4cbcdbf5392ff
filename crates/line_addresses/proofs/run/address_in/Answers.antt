use Rattle.line_addresses.proofs.Known.{sym, ◌∙◌, eqb-true, nothing_in}
use Rattle.line_addresses.proofs.run.address_in.Goals as goal

pub returns-then-is_empty : goal.returns-then-is_empty
returns-then-is_empty c = nothing_in c.args.run.now (eqb-true _ _ (sym c.is_empty.ensures ∙ c.if-is_empty.true))
