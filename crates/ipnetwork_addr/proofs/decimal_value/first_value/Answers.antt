use Rattle.ipnetwork_addr.proofs.Known.{refl, first_value, FIRST_DIGITS, first_bound, entry}
use Rattle.ipnetwork_addr.proofs.decimal_value.first_value.Goals as goal

pub returns-clause-value : goal.returns-clause-value
returns-clause-value c = entry FIRST_DIGITS first_value 256 refl c.args.byte _ c.ranges.byte.fits c.from.ensures

pub returns-clause-bound : goal.returns-clause-bound
returns-clause-bound c = first_bound c.args.byte _
    (entry FIRST_DIGITS first_value 256 refl c.args.byte _ c.ranges.byte.fits c.from.ensures)
