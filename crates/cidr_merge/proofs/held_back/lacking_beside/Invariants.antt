use Rattle.cidr_merge.proofs.Known.{◌≡◌, ◌-◌, length, blocks_left}
use Rattle.cidr_merge.proofs.held_back.lacking_beside.Given as goal

abbrev pub invariant-loop-lacking : goal.invariant-loop-lacking
invariant-loop-lacking g l =
    l.lacking - length (blocks_left l.blocks) ≡ l.initial.lacking - length (blocks_left l.initial.blocks)

abbrev pub decreases-loop-lacking : goal.decreases-loop-lacking
decreases-loop-lacking g l = l.lacking
