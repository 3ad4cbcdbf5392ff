use Rattle.std.proofs.Common.{◌∙◌, sym, true≢false}
use Rattle.ipnetwork_law_uses.proofs.every_network.v6_blocks_are_apart.Goals as goal

pub returns : goal.returns
returns c = λ f o. true≢false
    (sym (c.networks_are_pairs.ensures.equal.1
    (c.blocks_that_meet.ensures c.requires.first c.requires.second c.requires.as_long o)) ∙ f)
