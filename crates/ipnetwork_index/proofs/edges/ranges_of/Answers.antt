use Rattle.ipnetwork_index.proofs.Known.{map, dedup_is, each_once, all_cut_out}
use Rattle.ipnetwork_index.proofs.edges.ranges_of.Goals as goal

pub closed-requires : goal.closed-requires
closed-requires g c =
    rw (dedup_is g.N.Addr.PartialEq.eq _ _ c.dedup.ensures.filtered)
    (each_once g.N.Addr.Ord.cmp g.N.Addr.PartialEq.eq g.N.CidrNetwork.number
    g.met.N.CidrNetwork.address_order g.met.N.Addr.Ord.matches_eq
    g.met.N.Addr.Ord.total c.sort_unstable.new.self.items c.sort_unstable.ensures.sorted)

pub returns : goal.returns
returns g c = λ t is.
    all_cut_out g.N.Addr.Ord.cmp g.N.Addr.PartialEq.eq g.N.CidrNetwork.number
    g.met.N.CidrNetwork.address_order g.met.N.Addr.Ord.matches_eq
    g.N.CidrNetwork.WIDTH t c.in_ok-edges.edges.items c.sort_unstable.new.self.items
    (map g.N.CidrNetwork.number c.in_ok-lasts.lasts.items)
    g.met.N.Addr.Eq.laws c.listing.ensures.listed c.listing.ensures.stored
    (rw (← is) c.in_ok-edges.ensures)
    c.sort_unstable.ensures.permutation
    (rw (← (dedup_is g.N.Addr.PartialEq.eq _ _ c.dedup.ensures.filtered)) c.in_ok-lasts.ensures)
