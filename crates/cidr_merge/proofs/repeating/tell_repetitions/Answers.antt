use Rattle.cidr_merge.proofs.Known.{map, ap, sym, listed_as, repetitions, none_so_far, repetitions_told_more}
use Rattle.cidr_merge.proofs.repeating.tell_repetitions.Goals as goal

pub loop-place-init : goal.loop-place-init
loop-place-init g c =
    none_so_far _ _ c.args.output.now
    (sym (ap (λ es. repetitions c.args.names.now (map listed_as es)) c.in-Some.ensures.cases.0))

pub loop-place-preserved : goal.loop-place-preserved
loop-place-preserved g c =
    repetitions_told_more c.args.names.now (repetitions c.args.names.now
    (map listed_as c.args.entries.now)) c.loop-place.previous c.loop-place.furthest
    c.other_of.result c.further-furthest.result
    c.in-Some.others.now c.loop-place.place _ c.args.output.now c.loop-place.output
    c.tell_overlap-more.new.output c.loop-place.found c.tell_overlap-more.result
    c.either-found.result
    c.loop-place-test.true c.loop-place.invariant c.other_of.ensures c.tell_overlap-more.ensures
    c.either-found.ensures c.further-furthest.ensures
