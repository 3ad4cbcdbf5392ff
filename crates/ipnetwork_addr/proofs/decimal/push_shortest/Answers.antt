use Rattle.ipnetwork_addr.proofs.Known.{arith, shortest_pushed}
use Rattle.ipnetwork_addr.proofs.decimal.push_shortest.Goals as goal

pub returns-clause-bytes : goal.returns-clause-bytes
returns-clause-bytes g c = shortest_pushed _ _ c.args.number _ (omega arith) c.digit_count.ensures.counted
    c.push_padded.ensures.bytes
