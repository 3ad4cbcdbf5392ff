use Rattle.ipnetwork_addr.proofs.Known.{ℕ, cond, nat_lt, refl, digit_value, DIGITS, digit_bound, entry}
use Rattle.ipnetwork_addr.proofs.decimal_value.decimal_value.Goals as goal

-- the table's entry for a byte
abbrev value : ℕ → ℕ
value byte = cond (nat_lt (digit_value byte) 10) (digit_value byte) 256

pub returns-clause-value : goal.returns-clause-value
returns-clause-value c = entry DIGITS value 256 refl c.args.byte _ c.ranges.byte.fits c.from.ensures

pub returns-clause-bound : goal.returns-clause-bound
returns-clause-bound c = digit_bound c.args.byte _
    (entry DIGITS value 256 refl c.args.byte _ c.ranges.byte.fits c.from.ensures)
