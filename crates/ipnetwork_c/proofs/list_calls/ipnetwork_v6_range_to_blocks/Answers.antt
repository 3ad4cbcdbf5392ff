use Rattle.ipnetwork_c.proofs.list_calls.ipnetwork_v6_range_to_blocks.Goals as goal

pub returns : goal.returns
returns c = let first_is = rw c.address_of.ensures at c.range.ensures in rw c.address_of-2.ensures at first_is
