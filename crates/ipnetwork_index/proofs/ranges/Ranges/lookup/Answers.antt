use Rattle.ipnetwork_index.proofs.Known.{made_finds}
use Rattle.ipnetwork_index.proofs.ranges.Ranges.lookup.Goals as goal

pub place_of-place-requires : goal.place_of-place-requires
place_of-place-requires g c = record { lasts = c.requires.1.lasts; of = c.requires.1.placed }

pub returns : goal.returns
returns g c = λ t i.
    made_finds g.N.CidrNetwork.pair g.N.CidrNetwork.WIDTH t c.args.self.now.answers.prefixes.items
    c.args.self.now.answers.values.items (g.N.CidrNetwork.number c.args.addr)
    c.place_of-place.result c.of.result
    (i.answered.all _ _ (c.place_of-place.ensures i.lasts i.placed)) c.of.ensures
