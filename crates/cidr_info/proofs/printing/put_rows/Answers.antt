use Rattle.cidr_info.proofs.Known.{rules, [], ◌++◌, ◌∙◌, ◌+◌, ℕ, List, ap, sym, refl, arith, append_assoc, drop, flat_map, at_drop_more, puts_more, puts_nothing, puts_two, puts_it, fails_first, works_still, works_on, fields, row_text, info_text}
use Rattle.cidr_info.proofs.printing.put_rows.Goals as goal

pub loop-field-init : goal.loop-field-init
unfolding info_text
loop-field-init g c = ([], puts_nothing _ _, refl, refl)

pub loop-field-preserved : goal.loop-field-preserved
loop-field-preserved g c =
    let h = c.loop-field.invariant in
    let i = c.loop-field.field-index in
    let rows = flat_map (row_text c.args.form c.args.network.now) in (
      _,
      puts_more _ _ _ _ _ _ h.0 _ h.1 c.in_ok-put_row.ensures.ok,
      works_on _ _ _ c.in_ok-put_row.ensures.failed h.2,
      append_assoc h.0 _ _ ∙ sym (ap (λ (t : List ℕ). h.0 ++ t) (at_drop_more rows fields i _ (omega arith))) ∙ h.3,
    )

pub returns-in_err-put_row : goal.returns-in_err-put_row
returns-in_err-put_row g c =
    let h = c.loop-field.invariant in
    let i = c.loop-field.field-index in
    let rows = flat_map (row_text c.args.form c.args.network.now) in
    let left = rows (drop (i + 1) fields) in
    puts_it c.from_residual.result c.args.output.now c.put_row.new.output _ _
    (sym (ap (λ (t : List ℕ). h.0 ++ t) (at_drop_more rows fields i _ (omega arith))) ∙ h.3)
    (puts_two c.from_residual.result c.args.output.now c.loop-field.output c.put_row.new.output h.0 _
    h.1 (works_still _ _ h.2)
    (fails_first c.from_residual.result c.loop-field.output c.put_row.new.output _ left (search rules)
    c.in_err-put_row.ensures.failed c.in_err-put_row.ensures.beginning))
