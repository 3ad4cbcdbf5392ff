use Rattle.reducing.proofs.Known.{length, Becomes}
use Rattle.reducing.proofs.reduction.reduce.Given as goal

abbrev pub invariant-loop-list : goal.invariant-loop-list
invariant-loop-list g l = Becomes g.N.CidrNetwork.WIDTH l.fn.most l.fn.set l.list l.others

abbrev pub decreases-loop-list : goal.decreases-loop-list
decreases-loop-list g l = length l.list
