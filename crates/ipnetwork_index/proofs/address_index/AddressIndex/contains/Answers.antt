use Rattle.ipnetwork_index.proofs.Known.{ℕ, ◌^◌, ◌<◌, subst, LiesAt, place_tells}
use Rattle.ipnetwork_index.proofs.address_index.AddressIndex.contains.Goals as goal

pub returns : goal.returns
returns g c =
    let w : ℕ = g.N.CidrNetwork.WIDTH in
    let x : ℕ = g.N.CidrNetwork.number c.args.addr in
    let small : x < 2 ^ w = subst (λ (y : ℕ). y < 2 ^ w) c.number_of.ensures.number
    c.number_of.ensures.width in
    let place : LiesAt c.self.inside.partition x c.place_of.result
    = subst (λ (y : ℕ). LiesAt c.self.inside.partition y c.place_of.result)
    c.number_of.ensures.number c.place_of.ensures in
    rw (← c.self.view_is) (place_tells w c.self.inside.first_is_in c.self.inside.partition x
    c.place_of.result small place)
