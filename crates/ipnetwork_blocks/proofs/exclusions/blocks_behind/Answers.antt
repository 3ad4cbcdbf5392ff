use Rattle.ipnetwork_blocks.proofs.Known.{◌+◌, ◌∙◌, ap, least_behind}
use Rattle.ipnetwork_blocks.proofs.exclusions.blocks_behind.Goals as goal

pub returns-in-Some : goal.returns-in-Some
returns-in-Some g c =
    least_behind g.N.CidrNetwork.WIDTH _ _ _ _ (c.in-Some.ensures.1 ∙ ap (λ k. k + 1) c.broadcast.ensures)
    c.between_or_none.ensures
