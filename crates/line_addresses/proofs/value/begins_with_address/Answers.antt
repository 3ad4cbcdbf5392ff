use Rattle.line_addresses.proofs.Known.{sym, ap, ◌∙◌, is_some, address_in, run_first, same_some}
use Rattle.line_addresses.proofs.value.begins_with_address.Goals as goal

pub returns : goal.returns
returns c =
    c.is_some.ensures ∙ same_some _ _ _ c.address_in.ensures
    ∙ ap (λ r. is_some (address_in r)) (sym (run_first c.args.text.now c.run_end.result c.run_end.ensures))
