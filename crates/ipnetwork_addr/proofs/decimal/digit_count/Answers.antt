use Rattle.ipnetwork_addr.proofs.Known.{arith, counted_step, counted_end, counted_few, count_few}
use Rattle.ipnetwork_addr.proofs.decimal.digit_count.Goals as goal

pub overflow_add-count : goal.overflow_add-count
overflow_add-count c = omega
    (arith, counted_few c.args.number c.digits.count c.digits.rest (omega arith) c.digits.invariant)

pub digits-preserved : goal.digits-preserved
digits-preserved c = counted_step _ _ _ (omega arith) (omega arith) c.digits.invariant

pub returns-clause-counted : goal.returns-clause-counted
returns-clause-counted c = counted_end _ _ c.digits.rest (omega arith) c.digits.invariant

pub returns-clause-few : goal.returns-clause-few
returns-clause-few c = count_few c.args.number _ (omega arith)
    (counted_end _ _ c.digits.rest (omega arith) c.digits.invariant)
