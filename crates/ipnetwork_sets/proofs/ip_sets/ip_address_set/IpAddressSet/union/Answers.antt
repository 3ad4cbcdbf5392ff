use Rattle.ipnetwork_sets.proofs.Known.{List, subst, OnErr, vec_capacity, IpNetwork, InIpEither, HasTooLittleRoom, one_ip_list}
use Rattle.ipnetwork_sets.proofs.ip_sets.ip_address_set.IpAddressSet.union.Goals as goal

pub returns-clause-room : goal.returns-clause-room
returns-clause-room c blocks h =
    subst (λ (l : List IpNetwork).
    OnErr c.into_set.result (HasTooLittleRoom (vec_capacity c.args.v4_memory) (vec_capacity c.args.v6_memory) l))
    (one_ip_list (InIpEither c.args.self.now c.args.other.now) _ blocks c.union_blocks.ensures h)
    c.into_set.ensures.room
