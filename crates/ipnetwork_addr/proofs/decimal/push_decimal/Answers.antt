use Rattle.ipnetwork_addr.proofs.Known.{arith, pushed_as, one_pushed, two_pushed, three_pushed}
use Rattle.ipnetwork_addr.proofs.decimal.push_decimal.Goals as goal

pub returns-then-number-ge100-clause-bytes : goal.returns-then-number-ge100-clause-bytes
returns-then-number-ge100-clause-bytes g c =
    three_pushed c.args.number (omega arith) (omega arith)
    (pushed_as _ _ _ _ c.digit.ensures (c.push.ensures.ascii (omega arith)))
    (pushed_as _ _ _ _ c.digit-then-number-ge100.ensures
    (c.push-then-number-ge100.ensures.ascii (omega arith)))
    (pushed_as _ _ _ _ c.digit-then-number-ge100-2.ensures
    (c.push-then-number-ge100-2.ensures.ascii (omega arith)))

pub returns-else-number-ge10-clause-bytes : goal.returns-else-number-ge10-clause-bytes
returns-else-number-ge10-clause-bytes g c =
    one_pushed c.args.number (omega arith)
    (pushed_as _ _ _ _ c.digit-else-number-ge10.ensures
    (c.push-else-number-ge10.ensures.ascii (omega arith)))

pub returns-then-number-ge10-clause-bytes : goal.returns-then-number-ge10-clause-bytes
returns-then-number-ge10-clause-bytes g c =
    two_pushed c.args.number (omega arith) (omega arith)
    (pushed_as _ _ _ _ c.digit-then-number-ge10.ensures
    (c.push-then-number-ge10.ensures.ascii (omega arith)))
    (pushed_as _ _ _ _ c.digit-then-number-ge10-2.ensures
    (c.push-then-number-ge10-2.ensures.ascii (omega arith)))
