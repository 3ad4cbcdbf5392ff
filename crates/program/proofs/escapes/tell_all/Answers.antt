use Rattle.program.proofs.Known.{◌≡◌, ◌∙◌, ◌+◌, ◌-◌, ◌∷◌, ◌++◌, ℕ, List, ap, sym, arith, append_assoc, drop, take, length, length-drop, get_or, at_drop_more, take_all, escaped_behind, kept_at, printed_byte, tells_on}
use Rattle.program.proofs.escapes.tell_all.Goals as goal

pub loop-at-preserved : goal.loop-at-preserved
loop-at-preserved g c =
    let tabs = c.args.keeps_tabs in
    let bytes = c.args.bytes.now in
    let i = c.loop-at.at in
    let kept = c.loop-at.kept in
    let now = c.kept_at-now.result in
    let h = c.loop-at.invariant.1 in
    let here = drop i bytes in
    let rest = drop (i + 1) bytes in
    let byte = get_or bytes i 0 in
    let all : take (length bytes - i) here ≡ here = take_all (length bytes - i) here (omega (arith, length-drop i bytes)) in
    let is : now ≡ kept_at tabs kept (byte ∷ rest) = c.kept_at-now.ensures ∙ ap (kept_at tabs kept) all
    ∙ at_drop_more (kept_at tabs kept) bytes i 0 c.loop-at-test.true in (
      omega (arith, c.loop-at-test.true),
      (
        h.0 ++ printed_byte now byte,
        tells_on h.1 c.tell_byte.ensures,
        append_assoc h.0 (printed_byte now byte) (escaped_behind tabs c.saturating_sub-kept.result rest)
            ∙ ap (λ (n : ℕ). h.0 ++ (printed_byte now byte ++ escaped_behind tabs n rest)) c.saturating_sub-kept.ensures
            ∙ ap (λ (n : ℕ). h.0 ++ (printed_byte n byte ++ escaped_behind tabs (n - 1) rest)) is
            ∙ sym (ap (λ (t : List ℕ). h.0 ++ t) (at_drop_more (escaped_behind tabs kept) bytes i 0
            c.loop-at-test.true))
            ∙ h.2,
      ),
    )
