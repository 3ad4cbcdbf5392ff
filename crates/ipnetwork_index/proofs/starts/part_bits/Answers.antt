use Rattle.ipnetwork_index.proofs.Known.{arith, few_bits, has_bits, many_bits, one_to_two, two_to_four}
use Rattle.ipnetwork_index.proofs.starts.part_bits.Goals as goal

pub returns-then-bits-lt15-clause-few : goal.returns-then-bits-lt15-clause-few
returns-then-bits-lt15-clause-few c = λ some few.
    two_to_four c.args.ranges _ (has_bits c.args.ranges some c.ranges.ranges.fits)

pub returns-then-bits-lt15-clause-many : goal.returns-then-bits-lt15-clause-many
returns-then-bits-lt15-clause-many c = λ many.
    let h = has_bits c.args.ranges (omega arith) c.ranges.ranges.fits in
    absurd (omega (arith, c.if-bits-lt15.true, many_bits c.args.ranges _ 14 h many))

pub returns-clause-few : goal.returns-clause-few
returns-clause-few c = λ some few.
    let h = has_bits c.args.ranges some c.ranges.ranges.fits in
    absurd (omega (arith, c.if-bits-lt15.false, few_bits c.args.ranges _ 14 h few))

pub returns-clause-many : goal.returns-clause-many
returns-clause-many c = λ many.
    rw c.min.ensures
    (one_to_two c.args.ranges _ (has_bits c.args.ranges (omega arith) c.ranges.ranges.fits))
