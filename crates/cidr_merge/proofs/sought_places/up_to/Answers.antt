use Rattle.cidr_merge.proofs.Known.{◌<◌, Place, arith, subst, get_or_default, front}
use Rattle.cidr_merge.proofs.sought_places.up_to.Goals as goal
use Rattle.cidr_merge.proofs.sought_places.up_to.Goals.{then-loop-count-test+else-places-count, else-loop-count-test}

pub returns : goal.returns
returns c =
    front c.args.places.now c.loop-count.count c.args.last c.requires c.loop-count.invariant
    (λ d less. elim c.loop-count-test.branch [
      | then-loop-count-test+else-places-count w ↦
          subst (λ (p : Place). c.args.last < p.0) (get_or_default c.args.places.now c.loop-count.count (0, 0, 0) d less)
          w.if-places-count.false
      | else-loop-count-test w ↦ let end = w.loop-count-test.false in absurd (omega (arith, end, less))
    ])
