use Rattle.ipnetwork_addr.proofs.Known.{◌==◌, cond, refl, dot, FACTORS, factor_bound, entry}
use Rattle.ipnetwork_addr.proofs.decimal_value.factor_before.Goals as goal

pub returns-clause-value : goal.returns-clause-value
returns-clause-value c = entry FACTORS (λ byte. cond (byte == dot) 1 10) 256 refl c.args.byte _ c.ranges.byte.fits
    c.from.ensures

pub returns-clause-bound : goal.returns-clause-bound
returns-clause-bound c = factor_bound c.args.byte _
    (entry FACTORS (λ byte. cond (byte == dot) 1 10) 256 refl c.args.byte _ c.ranges.byte.fits c.from.ensures)
