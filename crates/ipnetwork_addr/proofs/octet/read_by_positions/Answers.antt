use Rattle.ipnetwork_addr.proofs.Known.{arith, take_rest, no_end, no_octet_before, behind_end, behind_within}
use Rattle.ipnetwork_addr.proofs.octet.read_by_positions.Goals as goal

pub returns-in_err-end : goal.returns-in_err-end
returns-in_err-end c = rw c.from_residual.ensures (no_end _ (rw take_rest at c.in_err-end.ensures))

pub returns-in_err-octet : goal.returns-in_err-octet
returns-in_err-octet c = rw c.from_residual-in_err-octet.ensures
    (no_octet_before _ _ (rw take_rest at c.in_ok-end.ensures) (rw take_rest at c.in_err-octet.ensures))

pub returns : goal.returns
returns c =
    let found = rw take_rest at c.in_ok-end.ensures in (
      behind_within _ c.args.at _ c.requires found,
      behind_end _ c.args.at _ _ _ found (omega arith) (rw take_rest at c.in_ok-octet.ensures),
    )
