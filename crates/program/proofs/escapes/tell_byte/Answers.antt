use Rattle.program.proofs.Known.{◌∙◌, ◌∷◌, [], ◌++◌, ℕ, ap, ap₂, sym, codes, printed_byte, tells_on, tells_same}
use Rattle.program.proofs.escapes.tell_byte.Goals as goal

pub returns-then-kept-eq0 : goal.returns-then-kept-eq0
returns-then-kept-eq0 g c =
    let first = c.hex_digit.result in
    let second = c.hex_digit-then-kept-eq0.result in
    tells_same _ _ (codes "\\x" ++ first ∷ second ∷ []) _
    (ap₂ (λ (a b : ℕ). codes "\\x" ++ a ∷ b ∷ []) c.hex_digit.ensures c.hex_digit-then-kept-eq0.ensures
    ∙ sym (ap (λ (n : ℕ). printed_byte n c.args.byte) c.if-kept-eq0.true))
    (tells_on c.tell.ensures c.tell_bytes.ensures)
