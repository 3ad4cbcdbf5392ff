use Rattle.ipnetwork_blocks.proofs.Known.{◌∙◌, least_before}
use Rattle.ipnetwork_blocks.proofs.exclusions.blocks_before.Goals as goal

pub returns-in-Some : goal.returns-in-Some
returns-in-Some g c = least_before g.N.CidrNetwork.WIDTH _ _ _ _ (c.in-Some.ensures ∙ c.network.ensures)
    c.between_or_none.ensures
