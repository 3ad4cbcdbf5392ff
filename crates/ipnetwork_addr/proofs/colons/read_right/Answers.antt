use Rattle.ipnetwork_addr.proofs.Known.{ap, option_copied, is_nil, not_nil, right_empty, right_part, no_right_gap, no_right_part}
use Rattle.ipnetwork_addr.proofs.colons.read_right.Goals as goal

pub returns-then-is_empty : goal.returns-then-is_empty
returns-then-is_empty c = right_empty _ _ (is_nil _ _ c.is_empty.ensures c.if-is_empty.true)

pub returns-in-None : goal.returns-in-None
returns-in-None c = right_part _ _ _ _ _ c.in_ok-number.ensures (ap (λ o. option_copied o) c.in-None.is)

pub returns-in-Some : goal.returns-in-Some
returns-in-Some c = no_right_gap _ _ _ _ _ _ c.in_ok-number.ensures (ap (λ o. option_copied o) c.in-Some.is)

pub returns-in_err-number : goal.returns-in_err-number
returns-in_err-number c =
    rw c.from_residual.ensures (no_right_part _ _ c.in_err-number.ensures
    (not_nil _ _ c.is_empty.ensures c.if-is_empty.false))
