use Rattle.ipnetwork_blocks.proofs.Known.{arith, le-leb, is_below, all_below}
use Rattle.ipnetwork_blocks.proofs.numbered_subnet.is_below_power.Goals as goal

pub returns-then-exponent-ge128 : goal.returns-then-exponent-ge128
returns-then-exponent-ge128 c = (
  (λ t. all_below c.args.number c.args.exponent (omega (arith, c.ranges.number.fits))
      (omega (arith, c.if-exponent-ge128.true))),
  (λ l. le-leb 128 c.args.exponent c.if-exponent-ge128.true),
)

pub returns-else-exponent-ge128 : goal.returns-else-exponent-ge128
returns-else-exponent-ge128 c = is_below c.args.number c.args.exponent
