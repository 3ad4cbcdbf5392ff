use Rattle.lists.proofs.Known.{◌∙◌, ap, Option, told_cause, Encoding}
use Rattle.lists.proofs.entry.read_text.Goals as goal

pub returns-in-Err : goal.returns-in-Err
returns-in-Err c =
    let cause = c.in-Err.cause in (
      (
        cause,
        c.in-Err.ensures.0,
        c.told_cause.ensures ∙ ap (λ (e : Option Encoding). told_cause e cause) c.encoding_of.ensures,
      ),
      c.in-Err.ensures.1,
    )
