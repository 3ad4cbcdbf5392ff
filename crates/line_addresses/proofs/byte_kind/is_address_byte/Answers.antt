use Rattle.line_addresses.proofs.Known.{◌≡◌, ℕ, ◌<◌, ◌==◌, get_or, refl, ap, sym, ◌∙◌, agree_below_at, KINDS, is_address_byte, passes, passed}
use Rattle.line_addresses.proofs.byte_kind.is_address_byte.Goals as goal

-- each entry of the table, by computing all of them
entry : (byte at : ℕ) → byte < 256 → at ≡ byte → (get_or KINDS at 0 == 2) ≡ is_address_byte byte
entry byte at fits is = ap (λ b. get_or KINDS b 0 == 2) is ∙ agree_below_at (λ b. get_or KINDS b 0 == 2) is_address_byte
    256 byte refl fits

pub returns-clause-computed : goal.returns-clause-computed
returns-clause-computed c = entry c.args.byte _ c.ranges.byte.fits c.from.ensures

pub returns-clause-occurs : goal.returns-clause-occurs
returns-clause-occurs c =
    let here = entry c.args.byte _ c.ranges.byte.fits c.from.ensures in
    (λ t. passed c.args.byte (sym here ∙ t), λ h. here ∙ passes c.args.byte h)
