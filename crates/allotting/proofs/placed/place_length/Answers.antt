use Rattle.allotting.proofs.Known.{length, map, removed}
use Rattle.allotting.proofs.placed.place_length.Goals as goal

pub returns-clause-placed : goal.returns-clause-placed
returns-clause-placed g c = λ first h.
    removed g.N.CidrNetwork.pair g.N.CidrNetwork.WIDTH first c.args.used.now c.args.lengths.now c.args.pool.now
    c.remove_all.new.pool (map g.N.CidrNetwork.pair c.in_ok-taken.taken.items) c.fill_places.new.places
    c.args.prefix (length c.args.lengths.now) c.in_ok-remove_all.ensures (c.in_ok-taken.ensures.placed first h)
