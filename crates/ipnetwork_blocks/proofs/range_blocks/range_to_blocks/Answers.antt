use Rattle.ipnetwork_blocks.proofs.Known.{less, not_less}
use Rattle.ipnetwork_blocks.proofs.range_blocks.range_to_blocks.Goals as goal

pub returns-then-lt-clause-blocks : goal.returns-then-lt-clause-blocks
returns-then-lt-clause-blocks g c =
    (less g.N.Addr.PartialOrd.partial_cmp g.N.Addr.Ord.cmp g.N.CidrNetwork.number g.met.N.Addr.Ord.matches_partial_cmp
    g.met.N.CidrNetwork.address_order
    c.args.last c.args.first c.lt.result c.lt.ensures).0 c.if-lt.true

pub between-requires : goal.between-requires
between-requires g c =
    not_less g.N.Addr.PartialOrd.partial_cmp g.N.Addr.Ord.cmp g.N.CidrNetwork.number
    g.met.N.Addr.Ord.matches_partial_cmp g.met.N.CidrNetwork.address_order
    c.args.last c.args.first c.lt.result c.lt.ensures c.if-lt.false

pub returns-clause-blocks : goal.returns-clause-blocks
returns-clause-blocks g c = (
  not_less g.N.Addr.PartialOrd.partial_cmp g.N.Addr.Ord.cmp g.N.CidrNetwork.number g.met.N.Addr.Ord.matches_partial_cmp
      g.met.N.CidrNetwork.address_order
      c.args.last c.args.first c.lt.result c.lt.ensures c.if-lt.false,
  c.between.ensures.blocks,
)

pub returns-clause-count : goal.returns-clause-count
returns-clause-count g c = c.between.ensures.count
