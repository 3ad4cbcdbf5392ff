use Rattle.options.proofs.Known.{ℕ, ◌∙◌, ◌∷◌, sym, ap, arith, strip_prefix_char}
use Rattle.std.proofs.Common.{None}
use Rattle.options.proofs.reading.split_letter.Goals as goal

pub returns-in-None-clause-text : goal.returns-in-None-clause-text
returns-in-None-clause-text c =
    let more = c.in-Some.field-0-1.now in
    λ letter rest small e.
    absurd (strip_prefix_char c.from.result c.args.text.now None c.in-None.ensures.cases
    (omega (arith, c.from.ensures, c.if-first-ge128.false)) more
    (sym c.as_bytes.ensures.value ∙ c.in-Some.ensures.cases.0 ∙ ap (λ (x : ℕ). x ∷ more) (sym c.from.ensures)))
