use Rattle.ipnetwork_index.proofs.Known.{arith, starts_none, starts_more, all_started}
use Rattle.ipnetwork_index.proofs.starts.write_starts.Goals as goal

pub loop-part-init : goal.loop-part-init
loop-part-init g c = starts_none _ _ _ _

pub loop-part-preserved : goal.loop-part-preserved
loop-part-preserved g c =
    starts_more _ _ _ _ _ _ _ _ c.loop-part.invariant (omega (arith, c.loop-part-test.true))
    c.start_of-at.ensures (omega (arith, c.min.ensures))

pub returns : goal.returns
returns g c =
    all_started _ _ _ _ _ _ (omega arith) (omega (arith, c.loop-part-test.false))
    c.loop-part.invariant
