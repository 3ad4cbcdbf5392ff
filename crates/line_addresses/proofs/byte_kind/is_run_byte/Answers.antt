use Rattle.line_addresses.proofs.Known.{◌≡◌, ℕ, ◌<◌, ◌==◌, not, get_or, refl, ap, ◌∙◌, agree_below_at, is_run_byte, KINDS}
use Rattle.line_addresses.proofs.byte_kind.is_run_byte.Goals as goal

-- each entry of the table, by computing all of them
entry : (byte at : ℕ) → byte < 256 → at ≡ byte → not (get_or KINDS at 0 == 0) ≡ is_run_byte byte
entry byte at fits is = ap (λ b. not (get_or KINDS b 0 == 0)) is
    ∙ agree_below_at (λ b. not (get_or KINDS b 0 == 0)) is_run_byte 256 byte refl fits

pub returns : goal.returns
returns c = entry c.args.byte _ c.ranges.byte.fits c.from.ensures
