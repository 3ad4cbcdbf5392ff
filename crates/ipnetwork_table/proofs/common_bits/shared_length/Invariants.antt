use Rattle.ipnetwork_table.proofs.Known.{◌-◌, ◌≤◌, Member, ShareAtMost}
use Rattle.ipnetwork_table.proofs.common_bits.shared_length.Given as goal

abbrev pub invariant-halves : goal.invariant-halves
invariant-halves g l = record {
  between : l.least ≤ l.most;
  within : l.most ≤ g.N.CidrNetwork.WIDTH;
  shared : Member g.N.CidrNetwork.WIDTH (record { address = g.N.CidrNetwork.number l.first; prefix = l.least })
      (g.N.CidrNetwork.number l.second);
  no_more : ShareAtMost g.N.CidrNetwork.WIDTH (g.N.CidrNetwork.number l.first) (g.N.CidrNetwork.number l.second) l.most;
}

abbrev pub decreases-halves : goal.decreases-halves
decreases-halves g l = l.most - l.least
