use Rattle.cidr_join.proofs.Known.{rules, ◌+◌, map, take, drop, refl, sym, arith, subst, List, ℕ, Prints, puts_nothing, puts_more, still_works, row_text, rows_text, row_of, fails_all, works_still, rows_more, rows_all, rows_at, fails_before}
use Rattle.cidr_join.proofs.tally_logs.put_rows.Goals as goal

pub loop-row-init : goal.loop-row-init
loop-row-init g c = record { put = puts_nothing _ _; failed = refl }

pub loop-row-preserved : goal.loop-row-preserved
loop-row-preserved g c =
    let rows = c.args.rows.now in
    let i = c.loop-row.row-index in
    record {
      put = subst (λ (t : List ℕ). Prints c.args.output.now c.put_row.new.output t)
          (sym (rows_more row_of rows i c.row-item.result (omega arith) c.row-item.is))
          (puts_more _ _ _ _ _ _ (rows_text (map row_of (take i rows))) (row_text (row_of c.row-item.result))
          c.loop-row.invariant.put c.in_ok-put_row.ensures.ok);
      failed = still_works _ _ _ c.in_ok-put_row.ensures.failed c.loop-row.invariant.failed;
    }

pub returns-in_err-put_row : goal.returns-in_err-put_row
returns-in_err-put_row g c =
    let rows = c.args.rows.now in
    let i = c.loop-row.row-index in
    fails_all c.from_residual.result c.args.output.now c.loop-row.output c.put_row.new.output _ (search rules)
    c.loop-row.invariant.failed c.in_err-put_row.ensures.failed
    (fails_before c.args.output.now c.loop-row.output c.put_row.new.output (rows_text (map row_of (take i rows)))
    (row_text (row_of c.row-item.result)) (rows_text (map row_of (drop (i + 1) rows))) _
    c.loop-row.invariant.put (rows_at row_of rows i c.row-item.result (omega arith) c.row-item.is)
    c.in_err-put_row.ensures.beginning)

pub returns : goal.returns
returns g c = record {
  ok = subst (λ (t : List ℕ). Prints c.args.output.now c.loop-row.output t)
      (rows_all row_of c.args.rows.now c.loop-row.row-index (omega arith)) c.loop-row.invariant.put;
  failed = works_still _ _ c.loop-row.invariant.failed;
  beginning = tt;
}
