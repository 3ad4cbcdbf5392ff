use Rattle.cidr_merge.proofs.Known.{◌≡◌, ◌+◌, ◌-◌, ◌*◌, ◌^◌, ◌∙◌, ℕ, ap, arith, zero-div, block_size, mask_of, high}
use Rattle.cidr_merge.proofs.elements.wildcard.Goals as goal

no_bits : (w a : ℕ) → a ≡ mask_of w 0 → a ≡ 0
no_bits w a e = let all : w - 0 ≡ w = omega arith in omega (arith, e, ap (λ k. 2 ^ k) all)

turned : (w p a : ℕ) → a ≡ 0 → high w (record { address = a; prefix = p }) ≡ block_size w p - 1
turned w p a e =
    let none : 0 * block_size w p + block_size w p - 1 ≡ block_size w p - 1 = omega arith in
    ap (λ b. high w (record { address = b; prefix = p })) e
    ∙ ap (λ q. q * block_size w p + block_size w p - 1) (zero-div (block_size w p)) ∙ none

pub returns : goal.returns
returns g c =
    let w = g.A.Address.WIDTH in
    c.greatest.ensures ∙ turned w c.prefix.result _ (no_bits w _ c.mask.ensures)
    ∙ ap (λ p. block_size w p - 1) c.prefix.ensures.made
