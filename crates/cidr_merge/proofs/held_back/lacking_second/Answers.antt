use Rattle.cidr_merge.proofs.Known.{ap, arith, length, blocks_left, no_second}
use Rattle.cidr_merge.proofs.held_back.lacking_second.Goals as goal

pub returns-in-Differ : goal.returns-in-Differ
returns-in-Differ c =
    rw c.in-Differ.is (omega (arith, c.lacking_beside-without_v4.ensures, c.lacking_beside.ensures))

pub returns-in_default : goal.returns-in_default
returns-in_default c =
    let none_v4 = ap length (no_second c.args.operation c.in_default.not-Differ (blocks_left c.args.v4)) in
    let none_v6 = ap length (no_second c.args.operation c.in_default.not-Differ (blocks_left c.args.v6)) in
    omega (arith, none_v4, none_v6)
