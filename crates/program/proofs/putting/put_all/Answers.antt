use Rattle.program.proofs.Known.{rules, ◌++◌, ◌∙◌, ◌+◌, ℕ, List, ap, sym, arith, append_assoc, drop, flat_map, at_drop_more, puts_more, puts_two, puts_it, fails_first, works_still, works_on}
use Rattle.program.proofs.putting.put_all.Goals as goal

pub loop-text-preserved : goal.loop-text-preserved
loop-text-preserved g c =
    let h = c.loop-text.invariant in
    let left = flat_map (λ text. text.now) (drop (c.loop-text.text-index + 1) c.args.texts.now) in (
      h.0 ++ c.as_bytes.result.now,
      puts_more _ _ _ _ _ _ h.0 c.as_bytes.result.now h.1 c.in_ok-put.ensures.ok,
      works_on _ _ _ c.in_ok-put.ensures.failed h.2,
      append_assoc h.0 c.as_bytes.result.now left
          ∙ ap (λ (t : List ℕ). h.0 ++ (t ++ left)) c.as_bytes.ensures.value
          ∙ sym (ap (λ (t : List ℕ). h.0 ++ t)
          (at_drop_more (flat_map (λ text. text.now)) c.args.texts.now c.loop-text.text-index _ (omega arith)))
          ∙ h.3,
    )

pub returns-in_err-put : goal.returns-in_err-put
returns-in_err-put g c =
    let h = c.loop-text.invariant in
    let text = c.as_bytes.result.now in
    let left = flat_map (λ text. text.now) (drop (c.loop-text.text-index + 1) c.args.texts.now) in
    puts_it c.from_residual.result c.args.output.now c.put.new.self (h.0 ++ (text ++ left)) _
    (ap (λ (t : List ℕ). h.0 ++ (t ++ left)) c.as_bytes.ensures.value
    ∙ sym (ap (λ (t : List ℕ). h.0 ++ t)
    (at_drop_more (flat_map (λ text. text.now)) c.args.texts.now c.loop-text.text-index _ (omega arith)))
    ∙ h.3)
    (puts_two c.from_residual.result c.args.output.now c.loop-text.output c.put.new.self h.0 (text ++ left)
    h.1 (works_still _ _ h.2)
    (fails_first c.from_residual.result c.loop-text.output c.put.new.self text left (search rules)
    c.in_err-put.ensures.failed c.in_err-put.ensures.err))
