use Rattle.ipnetwork_sets.proofs.Known.{map, subst, ◌∙◌, sym, ap, IsAddressSet, tail_is_set}
use Rattle.ipnetwork_sets.proofs.blocks.BlocksIterator.next.Goals as goal

pub of_blocks-self-inside-requires : goal.of_blocks-self-inside-requires
of_blocks-self-inside-requires g c =
    tail_is_set g.N.CidrNetwork.WIDTH (g.N.CidrNetwork.pair c.in-Some.block.now)
    (map g.N.CidrNetwork.pair c.in-Some.rest.now) c.one_block.ensures.apart
    (subst (IsAddressSet g.N.CidrNetwork.WIDTH) (sym c.blocks-left.ensures.blocks
    ∙ ap (map g.N.CidrNetwork.pair) c.in-Some.ensures.cases.0) c.blocks-left.ensures.set)
