use Rattle.ipnetwork_c.proofs.Known.{ℕ, subst, RangeQuery}
use Rattle.ipnetwork_c.proofs.ranges.find.Goals as goal

pub returns : goal.returns
returns g c = subst (λ (x : ℕ). RangeQuery g.H.HoldsNetwork.held c.args.ranges.now c.args.places.now x c.args.place.now
    c.place_near.new.place c.place_near.result) c.number_in-number.ensures c.place_near.ensures
