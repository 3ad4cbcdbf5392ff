use Rattle.ipnetwork_blocks.proofs.Known.{List, sym, subst, Network, IsLeastList, FromTo, least_from_after}
use Rattle.ipnetwork_blocks.proofs.range_blocks.RangeBlocks.between_or_none.Goals as goal

pub returns-in-None : goal.returns-in-None
returns-in-None g c =
    subst (λ (r : List Network). IsLeastList g.N.CidrNetwork.WIDTH
    (FromTo (g.N.CidrNetwork.number c.args.first) (g.N.CidrNetwork.number c.args.last)) r) (sym c.none.ensures.none)
    (least_from_after g.N.CidrNetwork.WIDTH _ _ c.in-None.ensures.blocks)
