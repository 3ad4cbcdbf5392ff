use Rattle.ipnetwork_c.proofs.Known.{sym, arith, v6_in, member_by_half}
use Rattle.ipnetwork_c.proofs.halves.has.Goals as goal

pub returns : goal.returns
returns c = λ x is. member_by_half (v6_in c.args.held.now) x c.args.half c.high_half.result c.from-host_bits.result
    (omega arith) (omega arith) is (sym c.high_half.ensures) (omega arith)
