use Rattle.ipnetwork_sets.proofs.Known.{asked_of_both, no_blocks}
use Rattle.ipnetwork_sets.proofs.ip_sets.ip_address_set.IpAddressSet.is_empty.Goals as goal

pub returns-then-is_empty : goal.returns-then-is_empty
returns-then-is_empty c =
    asked_of_both no_blocks {b = c.args.self.now} c.v4.ensures.blocks c.v4.ensures.blocks c.v6.ensures.blocks
    c.v6.ensures.blocks c.is_empty.ensures c.if-is_empty.true c.is_empty-then-is_empty.ensures
