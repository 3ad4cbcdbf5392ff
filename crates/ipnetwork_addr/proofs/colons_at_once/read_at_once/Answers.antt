use Rattle.ipnetwork_addr.proofs.Known.{arith, drop, ap, option_map, names_full, names_gap, gap_fits}
use Rattle.ipnetwork_addr.proofs.colons_at_once.read_at_once.Goals as goal

pub returns-then-count-eq8 : goal.returns-then-count-eq8
returns-then-count-eq8 c =
    names_full _ _ _ _ c.in_ok-count.ensures
    (ap (λ end. option_map (λ at. drop at c.args.text.now) end) c.in_default.is) c.if-count-eq8.true

pub returns : goal.returns
returns c =
    names_gap _ _ _ _ c.in_ok-count.ensures _ _ _ (ap (λ end. option_map (λ at. drop at c.args.text.now) end)
    c.in-Some.is) c.if-count-eq8-2.false c.shift.ensures c.in_ok-right.ensures

pub overflow_add-result : goal.overflow_add-result
overflow_add-result c =
    omega (
      arith,
      c.shift.ensures,
      gap_fits c.in_ok-count.left c.in_ok-right.right c.in_ok-count.count
          (omega (arith, c.in_ok-count.ensures.fits)) c.in_ok-count.ensures.small c.in_ok-right.ensures.small,
    )
