use Rattle.lists.proofs.Known.{◌≡◌, ◌++◌, length}
use Rattle.lists.proofs.networks.Networks.push_range.Given as goal

abbrev pub invariant-loop-block : goal.invariant-loop-block
invariant-loop-block g l = l.self ++ l.blocks ≡ l.initial.self ++ l.initial.blocks

abbrev pub decreases-loop-block : goal.decreases-loop-block
decreases-loop-block g l = length l.blocks
