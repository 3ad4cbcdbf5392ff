use Rattle.ipnetwork_index.proofs.Known.{map, dedup_is, by_pair, made}
use Rattle.ipnetwork_index.proofs.listing.entries_of_list.Goals as goal

pub returns : goal.returns
returns g c =
    made g.N.Ord.cmp g.N.PartialEq.eq g.N.CidrNetwork.pair c.args.value
    g.met.N.CidrNetwork.network_order g.met.N.Ord.matches_eq
    g.met.N.Ord.total g.met.N.Eq.laws g.N.CidrNetwork.WIDTH
    (map g.N.CidrNetwork.pair c.args.networks.now)
    c.in_ok-blocks.blocks.items c.sort_unstable.new.self.items
    (by_pair g.N.CidrNetwork.pair c.in_ok-entries.entries.items)
    c.in_ok-blocks.ensures.made c.in_ok-blocks.ensures.blocks
    c.sort_unstable.ensures.permutation c.sort_unstable.ensures.sorted
    (rw (← (dedup_is g.N.PartialEq.eq _ _ c.dedup.ensures.filtered))
    (rw (← c.as_slice.ensures.value) c.in_ok-entries.ensures))
