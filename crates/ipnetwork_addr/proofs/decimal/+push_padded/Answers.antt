use Rattle.ipnetwork_addr.proofs.Known.{arith, padded_none, padded_one, padded_pushed}
use Rattle.ipnetwork_addr.proofs.decimal.+push_padded.Goals as goal

pub returns-then-count-eq0-clause-bytes : goal.returns-then-count-eq0-clause-bytes
returns-then-count-eq0-clause-bytes g t c = padded_none _ _ _ c.if-count-eq0.true

pub returns-then-count-eq1-clause-bytes : goal.returns-then-count-eq1-clause-bytes
returns-then-count-eq1-clause-bytes g t c =
    padded_one _ _ _ _ _ c.if-count-eq1.true c.digit.ensures (c.push.ensures.ascii (omega arith))

pub returns-clause-bytes : goal.returns-clause-bytes
returns-clause-bytes g t c =
    padded_pushed _ _ _ _ _ _ _ _ (omega arith) c.push_padded.ensures.bytes c.digit-2.ensures c.digit-3.ensures
    (c.push-2.ensures.ascii (omega arith)) (c.push-3.ensures.ascii (omega arith))
