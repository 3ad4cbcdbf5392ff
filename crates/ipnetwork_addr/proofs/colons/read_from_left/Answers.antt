use Rattle.ipnetwork_addr.proofs.Known.{ap, arith, option_copied, no_names, names_full, too_few, gap_beside_eight, no_names_right, names_gap, gap_fits}
use Rattle.ipnetwork_addr.proofs.colons.read_from_left.Goals as goal

pub returns-in_err-count : goal.returns-in_err-count
returns-in_err-count c = rw c.from_residual.ensures (no_names _ c.in_err-count.ensures)

pub returns-then-count-eq8 : goal.returns-then-count-eq8
returns-then-count-eq8 c = names_full _ _ _ _ c.in_ok-count.ensures (ap (λ o. option_copied o) c.in_default.is)
    c.if-count-eq8.true

pub returns-else-count-eq8 : goal.returns-else-count-eq8
returns-else-count-eq8 c = too_few _ _ _ _ c.in_ok-count.ensures (ap (λ o. option_copied o) c.in_default.is)
    c.if-count-eq8.false

pub returns-then-count-eq8-2 : goal.returns-then-count-eq8-2
returns-then-count-eq8-2 c = gap_beside_eight _ _ _ _ c.in_ok-count.ensures _ (ap (λ o. option_copied o) c.in-Some.is)
    c.if-count-eq8-2.true

pub returns-in_err-right : goal.returns-in_err-right
returns-in_err-right c =
    rw c.from_residual-in_err-right.ensures
    (no_names_right _ _ _ _ c.in_ok-count.ensures _ (ap (λ o. option_copied o) c.in-Some.is) c.in_err-right.ensures)

pub returns : goal.returns
returns c =
    names_gap _ _ _ _ c.in_ok-count.ensures _ _ _ (ap (λ o. option_copied o) c.in-Some.is) c.if-count-eq8-2.false
    c.shift.ensures c.in_ok-right.ensures

pub overflow_add-result : goal.overflow_add-result
overflow_add-result c =
    omega (
      arith,
      c.shift.ensures,
      gap_fits c.in_ok-count.left c.in_ok-right.right c.in_ok-count.count
          (omega (arith, c.in_ok-count.ensures.fits)) c.in_ok-count.ensures.small c.in_ok-right.ensures.small,
    )
