use Rattle.ipnetwork_addr.proofs.Known.{take_rest, four_octets, no_first, no_second, no_third, no_fourth}
use Rattle.ipnetwork_addr.proofs.octet.read_from_left.Goals as goal

pub returns-in_err-first : goal.returns-in_err-first
returns-in_err-first c = rw c.from_residual.ensures (no_first _ c.in_err-first.ensures)

pub returns-in_err-second : goal.returns-in_err-second
returns-in_err-second c = rw c.from_residual-in_err-second.ensures
    (no_second c.in_ok-first.ensures.1 c.in_err-second.ensures)

pub returns-in_err-third : goal.returns-in_err-third
returns-in_err-third c = rw c.from_residual-in_err-third.ensures
    (no_third c.in_ok-first.ensures.1 c.in_ok-second.ensures.1 c.in_err-third.ensures)

pub returns-in_err-fourth : goal.returns-in_err-fourth
returns-in_err-fourth c =
    rw c.from_residual-in_err-fourth.ensures (no_fourth c.in_ok-first.ensures.1 c.in_ok-second.ensures.1
    c.in_ok-third.ensures.1 (rw take_rest at c.in_err-fourth.ensures))

pub returns : goal.returns
returns c = four_octets c.in_ok-first.ensures.1 c.in_ok-second.ensures.1 c.in_ok-third.ensures.1
    (rw take_rest at c.in_ok-fourth.ensures)
