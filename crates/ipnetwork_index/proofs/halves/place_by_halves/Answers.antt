use Rattle.ipnetwork_index.proofs.Known.{ℕ, List, map, is_within, high_within, come_by_high, place_by_high}
use Rattle.ipnetwork_index.proofs.halves.place_by_halves.Goals as goal

pub place_of-at-requires-clause-within : goal.place_of-at-requires-clause-within
place_of-at-requires-clause-within g c =
    let high = g.N.IndexedNetwork.high in
    let padded : List ℕ = map g.N.Number.Key.value c.args.lasts.now in
    let x : ℕ = g.N.Number.Key.value c.args.number in
    rw (c.requires.halved.highs_are, c.high_of-high.ensures)
    (high_within high g.met.N.IndexedNetwork.high_ascends padded x
    (is_within g.N.CidrNetwork.WIDTH padded x c.requires.padded c.requires.small))

pub returns-then-tell : goal.returns-then-tell
returns-then-tell g c =
    let padded : List ℕ = map g.N.Number.Key.value c.args.lasts.now in
    let x : ℕ = g.N.Number.Key.value c.args.number in
    place_by_high g.N.IndexedNetwork.high g.met.N.IndexedNetwork.high_ascends padded x
    c.place_of-at.result c.requires.padded.ascending
    (is_within g.N.CidrNetwork.WIDTH padded x c.requires.padded c.requires.small)
    (c.requires.halved.all_last c.if-tell.true)
    (rw (c.requires.halved.highs_are, c.high_of-high.ensures) at c.place_of-at.ensures)

pub place_from-requires : goal.place_from-requires
place_from-requires g c =
    let padded : List ℕ = map g.N.Number.Key.value c.args.lasts.now in
    let x : ℕ = g.N.Number.Key.value c.args.number in
    come_by_high g.N.IndexedNetwork.high g.met.N.IndexedNetwork.high_ascends padded x
    c.place_of-at.result c.requires.padded.ascending
    (is_within g.N.CidrNetwork.WIDTH padded x c.requires.padded c.requires.small)
    (rw (c.requires.halved.highs_are, c.high_of-high.ensures) at c.place_of-at.ensures)
