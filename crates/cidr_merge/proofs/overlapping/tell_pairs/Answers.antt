use Rattle.cidr_merge.proofs.Known.{pairs_next}
use Rattle.cidr_merge.proofs.overlapping.tell_pairs.Goals as goal

pub loop-place-preserved : goal.loop-place-preserved
loop-place-preserved g c =
    let step =
    pairs_next c.args.names.now c.args.entries.now c.loop-place.entries
    c.keep_reaching-count.new.entries c.swap.new.self c.loop-place.kept c.loop-place.place
    c.keep_reaching-count.result
    _ c.args.output.now c.loop-place.output c.tell_with-more.new.output c.loop-place.found
    c.tell_with-more.result c.either-found.result c.requires
    c.loop-place.invariant.swept c.loop-place.invariant.told c.loop-place-test.true
    c.keep_reaching-count.ensures c.swap.ensures.by_index c.swap.ensures.len
    c.tell_with-more.ensures.told c.tell_with-more.ensures.found c.either-found.ensures in
    record { swept = step.0; told = step.1 }
