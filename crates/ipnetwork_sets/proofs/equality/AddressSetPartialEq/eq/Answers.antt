use Rattle.ipnetwork_sets.proofs.Known.{List, map, ap, ◌∙◌, is_eq, Network, same_blocks, pointwise_pairs}
use Rattle.ipnetwork_sets.proofs.equality.AddressSetPartialEq.eq.Goals as goal

pub returns : goal.returns
returns g c =
    let second : List Network = map g.N.CidrNetwork.pair c.blocks-second.result.now in
    c.eq.ensures
    ∙ pointwise_pairs g.N.PartialEq.eq g.N.CidrNetwork.pair (λ x y. g.met.N.Ord.matches_eq x y
    ∙ ap is_eq (g.met.N.CidrNetwork.network_order x y)) c.blocks-first.result.now c.blocks-second.result.now
    ∙ ap (λ t. same_blocks t second) c.blocks-first.ensures.blocks
    ∙ ap (same_blocks c.args.self.now) c.blocks-second.ensures.blocks
