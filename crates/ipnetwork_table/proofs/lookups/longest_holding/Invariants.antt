use Rattle.ipnetwork_table.proofs.Known.{◌+◌, ◌≤◌, NoneAbove}
use Rattle.ipnetwork_table.proofs.lookups.longest_holding.Given as goal

abbrev pub invariant-shorter : goal.invariant-shorter
invariant-shorter g l = record {
  within : l.most ≤ g.N.CidrNetwork.WIDTH;
  counted : l.searches + l.most ≤ l.initial.searches + g.N.CidrNetwork.WIDTH;
  none_above : NoneAbove g.N.CidrNetwork.WIDTH l.values (g.N.CidrNetwork.number l.addr) l.most;
}

abbrev pub decreases-shorter : goal.decreases-shorter
decreases-shorter g l = l.most
