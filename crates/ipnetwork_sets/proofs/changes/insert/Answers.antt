use Rattle.ipnetwork_sets.proofs.Known.{ℕ, List, [], ◌∷◌, map, sym, refl, subst, arith, length-map, Network, IsLeastList, InEither, nothing_added, added_is_set, grew_by_one, failed, refused, one_written}
use Rattle.ipnetwork_sets.proofs.changes.insert.Goals as goal

pub returns-in_default-clause-set : goal.returns-in_default-clause-set
returns-in_default-clause-set g c =
    nothing_added g.N.CidrNetwork.WIDTH (map g.N.CidrNetwork.pair c.args.blocks.now.items)
    (g.N.CidrNetwork.pair c.args.network) c.requires
    (rw c.as_slice.ensures.value at c.in_default.ensures)

pub returns-in_default-clause-added : goal.returns-in_default-clause-added
returns-in_default-clause-added g c =
    let lies = rw c.as_slice.ensures.value at c.in_default.ensures in
    refused (λ other. other lies)

pub returns-in_err-make_room-clause-room : goal.returns-in_err-make_room-clause-room
returns-in_err-make_room-clause-room g c = λ list h.
    let w : ℕ = g.N.CidrNetwork.WIDTH in
    let bs : List Network = map g.N.CidrNetwork.pair c.args.blocks.now.items in
    let size = length-map c.args.blocks.now.items g.N.CidrNetwork.pair in
    let found = rw c.as_slice.ensures.value at c.in-Some.ensures in
    let ordered = found.1 in
    let within = found.2 in
    failed c.from_residual.result
    (grew_by_one w (InEither w bs (g.N.CidrNetwork.pair c.args.network ∷ [])) bs list c.in-Some.found.0
    c.in-Some.found.1 (g.N.CidrNetwork.pair c.in-Some.found.2)
    ordered (omega (arith, within, size)) found.3 h c.in_err-make_room.ensures.room)

pub returns-clause-set : goal.returns-clause-set
returns-clause-set g c =
    let w : ℕ = g.N.CidrNetwork.WIDTH in
    let bs : List Network = map g.N.CidrNetwork.pair c.args.blocks.now.items in
    let found = rw c.as_slice.ensures.value at c.in-Some.ensures in
    subst (λ (l : List Network). IsLeastList w (InEither w bs (g.N.CidrNetwork.pair c.args.network ∷ [])) l)
    (sym (one_written g.N.CidrNetwork.pair c.args.blocks.now.items c.make_room.new.blocks.items c.in-Some.found.0
    c.in-Some.found.1 c.in-Some.found.2 found.1 found.2 c.in_ok-make_room.ensures.made))
    found.3

pub returns-clause-added : goal.returns-clause-added
returns-clause-added g c =
    let found = rw c.as_slice.ensures.value at c.in-Some.ensures in
    ((λ t. found.0), (λ other. refl))

pub returns-clause-blocks : goal.returns-clause-blocks
returns-clause-blocks g c =
    let w : ℕ = g.N.CidrNetwork.WIDTH in
    let bs : List Network = map g.N.CidrNetwork.pair c.args.blocks.now.items in
    let n : Network = g.N.CidrNetwork.pair c.args.network in
    let found = rw c.as_slice.ensures.value at c.in-Some.ensures in
    added_is_set w bs n _
    (subst (λ (l : List Network). IsLeastList w (InEither w bs (n ∷ [])) l)
    (sym (one_written g.N.CidrNetwork.pair c.args.blocks.now.items c.make_room.new.blocks.items c.in-Some.found.0
    c.in-Some.found.1 c.in-Some.found.2 found.1 found.2 c.in_ok-make_room.ensures.made))
    found.3)
