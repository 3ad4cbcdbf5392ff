use Rattle.allotting.proofs.Known.{Subnet, [], arith, at_hand, count_number, more_taken, next_at, refl, rules}
use Rattle.allotting.proofs.usage.count_within.Goals as goal

pub loop-left-init : goal.loop-left-init
loop-left-init g c = ([], refl, (λ k d l. absurd (omega (arith, l))), refl)

pub loop-left-preserved : goal.loop-left-preserved
loop-left-preserved g c =
    let w = g.N.CidrNetwork.WIDTH in
    let pair = g.N.CidrNetwork.pair in
    let inv = c.loop-left.invariant in
    let within : Subnet w (pair c.in-Some.piece) (pair c.args.block) = search rules in
    more_taken w (pair c.args.block) (pair c.in-Some.piece) (at_hand pair c.args.next c.args.pieces.now)
    c.loop-left.pieces (at_hand pair c.next-after.result c.next-after.new.self) inv.0
    (count_number c.loop-left.count) (count_number c.add_block-count.result) (rw c.in-Some.is at inv.1)
    (next_at pair c.loop-left.pieces c.next-after.new.self c.next-after.result c.next-after.ensures.steps) inv.2 within
    inv.3 c.add_block-count.ensures
