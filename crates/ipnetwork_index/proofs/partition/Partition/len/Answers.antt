use Rattle.ipnetwork_index.proofs.Known.{◌≡◌, ℕ, ◌-◌, List, length, map, take, arith, length-map, length-take}
use Rattle.ipnetwork_index.proofs.partition.Partition.len.Goals as goal

pub returns : goal.returns
returns g c =
    let f = g.N.Number.Key.value in
    let xs : List ℕ = map f c.self.inside.lasts.items in
    let size : length xs ≡ length c.self.inside.lasts.items
    = length-map c.self.inside.lasts.items f in
    let some = c.self.invariant.is_padded.some in
    let own : length (take (length xs - 3) xs) ≡ length xs - 3
    = omega (arith, length-take {A = ℕ}) in
    rw (← c.self.view_is) (omega (arith, c.len.ensures, own, size))
