use Rattle.ipnetwork.proofs.Known.{subst, sym, IsIpCause, V4, V6, cause_of_both, names_none}
use Rattle.ipnetwork.proofs.refusal.cause.Goals as goal

pub returns-in_default : goal.returns-in_default
returns-in_default c = (V4 c.in_default.field-0, c.in_default.ensures)

pub returns-in_default-read_bytes : goal.returns-in_default-read_bytes
returns-in_default-read_bytes c = (V6 c.in_default-read_bytes.field-0, c.in_default-read_bytes.ensures)

pub returns : goal.returns
returns c =
    let text = c.args.text.now in (
      subst (IsIpCause text) (sym c.first_cause.ensures)
          (cause_of_both text c.in-Err.v4 c.in-Err-read_bytes.v6 c.in-Err.ensures.0 c.in-Err-read_bytes.ensures.0),
      names_none text c.in-Err.ensures.1 c.in-Err-read_bytes.ensures.1,
    )
