use Rattle.options.proofs.Known.{◌∙◌, ap, sym, list_all, is_taken}
use Rattle.options.proofs.operands.are_files.Goals as goal

pub returns-in-Ok : goal.returns-in-Ok
returns-in-Ok c = λ all.
    ap (list_all is_taken) (sym (c.as_slice.ensures.value ∙ c.in-Ok.ensures)) ∙ sym c.are_taken.ensures ∙ all
