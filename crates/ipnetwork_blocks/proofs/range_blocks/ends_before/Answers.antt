use Rattle.ipnetwork_blocks.proofs.Known.{less}
use Rattle.ipnetwork_blocks.proofs.range_blocks.ends_before.Goals as goal

pub returns : goal.returns
returns g c =
    rw c.broadcast.ensures at (less g.N.Addr.PartialOrd.partial_cmp g.N.Addr.Ord.cmp g.N.CidrNetwork.number
    g.met.N.Addr.Ord.matches_partial_cmp g.met.N.CidrNetwork.address_order
    c.broadcast.result c.args.address c.lt.result c.lt.ensures)
