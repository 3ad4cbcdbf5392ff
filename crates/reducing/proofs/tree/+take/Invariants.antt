use Rattle.reducing.proofs.Known.{◌+◌, ◌*◌, length}
use Rattle.reducing.proofs.tree.+take.Given as goal

abbrev pub decreases-take : goal.decreases-take
decreases-take g l = 2 * length l.tree.now

abbrev pub decreases-take_from : goal.decreases-take_from
decreases-take_from g l = 2 * (length l.near.now + length l.far.now) + 1
