use Rattle.ipnetwork_table.proofs.Known.{◌≤◌, NoneUsedBetween}
use Rattle.ipnetwork_table.proofs.lookups.last_used_up_to.Given as goal

abbrev pub invariant-shorter : goal.invariant-shorter
invariant-shorter l = record {
  within : l.length ≤ l.most;
  none : NoneUsedBetween l.used l.length l.most;
}

abbrev pub decreases-shorter : goal.decreases-shorter
decreases-shorter l = l.length
