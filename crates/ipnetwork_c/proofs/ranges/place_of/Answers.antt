use Rattle.ipnetwork_c.proofs.Known.{ℕ, subst, PlaceQuery}
use Rattle.ipnetwork_c.proofs.ranges.place_of.Goals as goal

pub returns : goal.returns
returns g c = subst (λ (x : ℕ). PlaceQuery g.H.HoldsNetwork.held c.args.ranges.now c.args.places.now x
    c.place_by_guess.result) c.number_in-number.ensures c.place_by_guess.ensures
