use Rattle.ipnetwork_addr.proofs.Known.{◌==◌, cond, refl, dot, NO_DOTS, no_dot_bound, entry}
use Rattle.ipnetwork_addr.proofs.decimal_value.is_no_dot.Goals as goal

pub returns-clause-value : goal.returns-clause-value
returns-clause-value c = entry NO_DOTS (λ byte. cond (byte == dot) 0 1) 256 refl c.args.byte _ c.ranges.byte.fits
    c.from.ensures

pub returns-clause-bound : goal.returns-clause-bound
returns-clause-bound c = no_dot_bound c.args.byte _
    (entry NO_DOTS (λ byte. cond (byte == dot) 0 1) 256 refl c.args.byte _ c.ranges.byte.fits c.from.ensures)
