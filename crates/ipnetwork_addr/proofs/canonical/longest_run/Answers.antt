use Rattle.ipnetwork_addr.proofs.Known.{arith, past_other, past_longer, past_zero, scanned_all}
use Rattle.ipnetwork_addr.proofs.canonical.longest_run.Goals as goal
use Rattle.ipnetwork_addr.proofs.canonical.longest_run.Goals.{then-groups-position-ne0, else-groups-position-ne0+then-longest-position, else-groups-position-ne0+else-longest-position}

pub loop-position-preserved : goal.loop-position-preserved
loop-position-preserved c =
    elim c.if-groups-position-ne0.branch [
      | then-groups-position-ne0 w ↦ rw (w.longest-is, w.start-is)
          (past_other _ _ _ _ _ c.loop-position.invariant w.if-groups-position-ne0.true)
      | else-groups-position-ne0+then-longest-position w ↦
          rw (w.longest-is, w.start-is) (past_longer _ _ _ _ _ c.loop-position.invariant w.if-groups-position-ne0.false
          (omega (arith, w.if-longest-position.true)))
      | else-groups-position-ne0+else-longest-position w ↦
          rw (w.longest-is, w.start-is) (past_zero _ _ _ _ _ c.loop-position.invariant w.if-groups-position-ne0.false
          (omega (arith, w.if-longest-position.false)))
    ]

pub returns-clause-run : goal.returns-clause-run
returns-clause-run c = scanned_all _ c.loop-position.position _ _ _ (omega arith) c.loop-position.invariant
