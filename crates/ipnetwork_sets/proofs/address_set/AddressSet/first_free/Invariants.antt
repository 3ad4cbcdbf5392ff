use Rattle.ipnetwork_sets.proofs.Known.{length, IsPassing}
use Rattle.ipnetwork_sets.proofs.address_set.AddressSet.first_free.Given as goal

abbrev pub invariant-loop-piece : goal.invariant-loop-piece
invariant-loop-piece g l = IsPassing l.initial.free l.fn.prefix l.free

abbrev pub decreases-loop-piece : goal.decreases-loop-piece
decreases-loop-piece g l = length l.free
