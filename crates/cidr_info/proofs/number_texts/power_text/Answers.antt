use Rattle.cidr_info.proofs.Known.{◌≡◌, ◌∙◌, ◌^◌, ◌++◌, ℕ, List, decimal, sym, ap, subst, digits}
use Rattle.std.proofs.Common.{codes}
use Rattle.cidr_info.proofs.number_texts.power_text.Goals as goal

pub returns-then-bits-eq128 : goal.returns-then-bits-eq128
unfolding digits
returns-then-bits-eq128 c =
    subst (λ (bits : ℕ). c.push_str.new.self.bytes ≡ decimal (2 ^ bits)) (sym c.if-bits-eq128.true)
    (c.push_str.ensures.bytes ∙ ap (λ (t : List ℕ). t ++ codes "340282366920938463463374607431768211456")
    c.new-text.ensures)
