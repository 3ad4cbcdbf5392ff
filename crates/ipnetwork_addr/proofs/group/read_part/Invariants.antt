use Rattle.ipnetwork_addr.proofs.Known.{PartSoFar}
use Rattle.ipnetwork_addr.proofs.group.read_part.Given as goal

abbrev pub invariant-loop-count : goal.invariant-loop-count
invariant-loop-count l = PartSoFar l.text l.rest l.count l.number
