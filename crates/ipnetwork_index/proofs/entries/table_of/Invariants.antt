use Rattle.ipnetwork_index.proofs.Known.{take, by_pair, HasLastValues}
use Rattle.ipnetwork_index.proofs.entries.table_of.Given as goal

abbrev pub invariant-loop-entry : goal.invariant-loop-entry
invariant-loop-entry g l = HasLastValues g.N.CidrNetwork.WIDTH
    (by_pair g.N.CidrNetwork.pair (take l.entry-index l.entries)) l.table
