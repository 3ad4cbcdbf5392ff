use Rattle.ipnetwork_sets.proofs.Known.{◌<◌, List, length, subst, OnErr, vec_capacity, Network, least_unique, InEither}
use Rattle.ipnetwork_sets.proofs.address_set.AddressSet.union.Goals as goal

pub returns-clause-room : goal.returns-clause-room
returns-clause-room g c blocks h =
    subst (λ (l : List Network). OnErr c.into_set.result (vec_capacity c.args.memory < length l))
    (least_unique g.N.CidrNetwork.WIDTH (InEither g.N.CidrNetwork.WIDTH c.args.self.now c.args.other.now) _ blocks
    c.union_blocks.ensures h)
    c.into_set.ensures.room
