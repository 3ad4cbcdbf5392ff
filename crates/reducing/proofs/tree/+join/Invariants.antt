use Rattle.reducing.proofs.Known.{◌+◌, ◌*◌, length}
use Rattle.reducing.proofs.tree.+join.Given as goal

abbrev pub decreases-join : goal.decreases-join
decreases-join g l = 2 * length l.tree.now

abbrev pub decreases-join_parts : goal.decreases-join_parts
decreases-join_parts g l = 2 * (length l.left.now + length l.right.now) + 1
