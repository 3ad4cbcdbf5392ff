use Rattle.ipnetwork_index.proofs.Known.{arith, length-map, all_last_more}
use Rattle.ipnetwork_index.proofs.halves.all_end.Goals as goal

pub loop-last-preserved : goal.loop-last-preserved
loop-last-preserved g c =
    all_last_more g.N.IndexedNetwork.high g.N.Number.Key.value c.args.lasts.now
    c.loop-last.last-index c.last-item.result c.loop-last.invariant
    (omega (arith, c.loop-last-test.true)) c.last-item.is
    (c.ends_high-ends.ensures c.if-not-ends.false)

pub returns : goal.returns
returns g c = λ _ k l. c.loop-last.invariant k
    (omega (arith, c.loop-last-test.false, length-map c.args.lasts.now g.N.Number.Key.value))
