use Rattle.cidr_merge.proofs.Known.{rules, fails_at, printed_more}
use Rattle.cidr_merge.proofs.placing.put_places.Goals as goal

pub loop-place-preserved : goal.loop-place-preserved
loop-place-preserved g c =
    printed_more _ _ _ _ _ _ _ _ c.loop-place.invariant c.in-Some.ensures.cases.0 c.in_ok-put_place.ensures.ok
    c.in_ok-put_place.ensures.failed

pub returns-in_err-put_place : goal.returns-in_err-put_place
returns-in_err-put_place g c =
    fails_at _ _ _ _ _ _ c.put_place.new.output _ _ (search rules) c.loop-place.invariant
    c.in-Some.ensures.cases.0 c.in_err-put_place.ensures.failed c.in_err-put_place.ensures.beginning
