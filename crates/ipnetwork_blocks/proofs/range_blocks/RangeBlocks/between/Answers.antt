use Rattle.ipnetwork_blocks.proofs.Known.{count_from_to, least_from_to}
use Rattle.ipnetwork_blocks.proofs.range_blocks.RangeBlocks.between.Goals as goal

pub returns-clause-blocks : goal.returns-clause-blocks
returns-clause-blocks g c = least_from_to g.N.CidrNetwork.WIDTH _ _ c.block_at.ensures.address

pub returns-clause-count : goal.returns-clause-count
returns-clause-count g c = λ h. count_from_to g.N.CidrNetwork.WIDTH _ _ h
