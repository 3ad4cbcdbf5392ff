use Rattle.reducing.proofs.Known.{length}
use Rattle.reducing.proofs.tree.+build.Given as goal

abbrev pub decreases-build : goal.decreases-build
decreases-build g l = length l.tree.now
