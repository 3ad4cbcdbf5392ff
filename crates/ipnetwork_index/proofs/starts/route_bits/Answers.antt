use Rattle.ipnetwork_index.proofs.Known.{arith}
use Rattle.ipnetwork_index.proofs.starts.route_bits.Goals as goal

pub returns-then-ranges-lt16384-clause-few : goal.returns-then-ranges-lt16384-clause-few
returns-then-ranges-lt16384-clause-few c =
    λ some few. c.part_bits.ensures.few some (omega (arith, c.if-ranges-lt16384.true))

pub returns-then-ranges-lt65536-clause-few : goal.returns-then-ranges-lt65536-clause-few
returns-then-ranges-lt65536-clause-few c = λ some few.
    let h = c.part_bits-then-ranges-lt65536.ensures.many (omega (arith, c.if-ranges-lt16384.false)) in
    record { more = h.more; within = omega (arith, h.within) }

pub returns-else-ranges-lt65536-clause-many : goal.returns-else-ranges-lt65536-clause-many
returns-else-ranges-lt65536-clause-many c = λ many.
    let h = c.part_bits-else-ranges-lt65536.ensures.many (omega (arith, many)) in
    record { more = h.more; within = omega (arith, h.within) }
