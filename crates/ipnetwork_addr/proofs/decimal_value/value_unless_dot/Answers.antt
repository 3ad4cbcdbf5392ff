use Rattle.ipnetwork_addr.proofs.Known.{ℕ, ◌==◌, cond, nat_lt, refl, digit_value, dot, DIGITS_OR_DOT, last_bound, entry}
use Rattle.ipnetwork_addr.proofs.decimal_value.value_unless_dot.Goals as goal

-- the table's entry for a byte
abbrev value : ℕ → ℕ
value byte = cond (byte == dot) 0 (cond (nat_lt (digit_value byte) 10) (digit_value byte) 256)

pub returns-clause-value : goal.returns-clause-value
returns-clause-value c = entry DIGITS_OR_DOT value 256 refl c.args.byte _ c.ranges.byte.fits c.from.ensures

pub returns-clause-bound : goal.returns-clause-bound
returns-clause-bound c = last_bound c.args.byte _
    (entry DIGITS_OR_DOT value 256 refl c.args.byte _ c.ranges.byte.fits c.from.ensures)
