use Rattle.ipnetwork_sets.proofs.Known.{length, IsWriting}
use Rattle.ipnetwork_sets.proofs.replacing.write_over.Given as goal

abbrev pub invariant-loop-next : goal.invariant-loop-next
invariant-loop-next g l = IsWriting g.N.CidrNetwork.pair l.fn.blocks l.from l.fn.others l.blocks l.next l.others

abbrev pub decreases-loop-next : goal.decreases-loop-next
decreases-loop-next g l = length l.others
