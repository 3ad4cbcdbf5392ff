use Rattle.ipnetwork_c.proofs.list_calls.ipnetwork_v4_range_to_blocks.Goals as goal

pub returns : goal.returns
returns c = let first_is = rw c.from.ensures at c.range.ensures in rw c.from-2.ensures at first_is
