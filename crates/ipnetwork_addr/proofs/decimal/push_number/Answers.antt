use Rattle.ipnetwork_addr.proofs.Known.{arith, ◌/◌, ◌^◌, pushed_as}
use Rattle.ipnetwork_addr.proofs.WideDecimals.{two_pushed, three_pushed}
use Rattle.ipnetwork_addr.proofs.decimal.push_number.Goals as goal

pub returns-then-high-lt-CHUNK-clause-bytes : goal.returns-then-high-lt-CHUNK-clause-bytes
returns-then-high-lt-CHUNK-clause-bytes g c =
    two_pushed _ _ _ (omega arith) (record { is_high = omega arith; is_low = omega arith }) (omega arith)
    c.push_shortest-then-high-lt-CHUNK.ensures.bytes c.push_padded.ensures.bytes

pub returns-else-high-lt-CHUNK-clause-bytes : goal.returns-else-high-lt-CHUNK-clause-bytes
returns-else-high-lt-CHUNK-clause-bytes g c =
    three_pushed _ _ {high = c.args.number / 10 ^ 19} (omega arith)
    (record { is_high = omega arith; is_low = omega arith }) (omega arith)
    (record { is_high = omega arith; is_low = omega arith })
    (pushed_as _ _ _ _ c.digit.ensures (c.push.ensures.ascii (omega arith)))
    c.push_padded-else-high-lt-CHUNK.ensures.bytes c.push_padded-else-high-lt-CHUNK-2.ensures.bytes
