use Rattle.ipnetwork_addr.proofs.Known.{drop, PartSoFar}
use Rattle.ipnetwork_addr.proofs.colons_at_once.read_part.Given as goal

abbrev pub invariant-loop-count : goal.invariant-loop-count
invariant-loop-count l = PartSoFar (drop l.from l.text) (drop l.at l.text) l.count l.number
