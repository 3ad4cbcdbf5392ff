use Rattle.cidr_merge.proofs.Known.{pairs_with_next}
use Rattle.cidr_merge.proofs.overlapping.tell_with.Goals as goal

pub loop-index-preserved : goal.loop-index-preserved
loop-index-preserved g c =
    pairs_with_next c.args.names.now c.args.later.now c.args.before.now c.loop-index.index _
    c.args.output.now c.loop-index.output c.tell_pair.new.output c.loop-index-test.true
    c.loop-index.invariant
    c.tell_pair.ensures
