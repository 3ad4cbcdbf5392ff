use Rattle.ipnetwork_addr.proofs.Known.{Scanned}
use Rattle.ipnetwork_addr.proofs.canonical.longest_run.Given as goal

abbrev pub invariant-loop-position : goal.invariant-loop-position
invariant-loop-position l = Scanned l.groups l.position l.start l.longest.0 l.longest.1
