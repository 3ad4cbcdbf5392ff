use Rattle.ipnetwork_addr.proofs.Known.{min, refl, arith, digit_value, VALUES, entry}
use Rattle.ipnetwork_addr.proofs.hex_value.hex_value.Goals as goal

pub returns-then-value-eq-NO_DIGIT : goal.returns-then-value-eq-NO_DIGIT
returns-then-value-eq-NO_DIGIT c =
    let here = entry VALUES (λ byte. min (digit_value byte) 16) 256 refl c.args.byte _ c.ranges.byte.fits c.from.ensures
    in omega arith

pub returns-else-value-eq-NO_DIGIT : goal.returns-else-value-eq-NO_DIGIT
returns-else-value-eq-NO_DIGIT c =
    let here = entry VALUES (λ byte. min (digit_value byte) 16) 256 refl c.args.byte _ c.ranges.byte.fits
    c.from.ensures in
    (omega arith, omega arith)
