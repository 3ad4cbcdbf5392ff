use Rattle.ipnetwork_sets.proofs.Known.{List, subst, OnErr, vec_capacity, IpNetwork, HasTooLittleRoom}
use Rattle.ipnetwork_sets.proofs.ip_sets.ip_address_set.IpAddressSet.copied.Goals as goal

pub returns-clause-room : goal.returns-clause-room
returns-clause-room c =
    subst (λ (l : List IpNetwork).
    OnErr c.into_set.result (HasTooLittleRoom (vec_capacity c.args.v4_memory) (vec_capacity c.args.v6_memory) l))
    c.iter.ensures.blocks c.into_set.ensures.room
