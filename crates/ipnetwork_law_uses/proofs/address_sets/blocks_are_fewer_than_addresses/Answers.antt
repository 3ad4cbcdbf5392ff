use Rattle.std.proofs.Common.{arith}
use Rattle.ipnetwork_law_uses.proofs.address_sets.blocks_are_fewer_than_addresses.Goals as goal

pub returns-clause-v4 : goal.returns-clause-v4
returns-clause-v4 c = λ blocks h. c.fewer_blocks.ensures 32 blocks (omega arith) h

pub returns-clause-v6 : goal.returns-clause-v6
returns-clause-v6 c = λ blocks h. c.fewer_blocks.ensures 128 blocks (omega arith) h
