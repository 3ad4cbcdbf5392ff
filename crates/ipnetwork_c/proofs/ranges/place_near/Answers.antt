use Rattle.ipnetwork_c.proofs.Known.{◌≡◌, ◌<◌, ℕ, subst, no_member, IsFault, Unless, Writes, no_place}
use Rattle.ipnetwork_c.proofs.ranges.place_near.Goals as goal

pub returns : goal.returns
returns g c =
    let (i, stands, is) = c.place_by_guess.ensures in (
      i,
      stands,
      subst (λ (found : ℕ). Unless (IsFault no_member (found ≡ no_place)) (Writes (λ put. (put < no_place)
          × (put ≡ found))) c.args.place.now c.put_found.new.place c.put_found.result) is c.put_found.ensures,
    )
