use Rattle.cidr_join.proofs.Known.{◌≤◌, NoneBetween}
use Rattle.cidr_join.proofs.longest.shorter_over.Given as goal

abbrev pub invariant-shorter : goal.invariant-shorter
invariant-shorter g l = record {
  within : l.length ≤ (g.N.CidrNetwork.pair l.network).prefix;
  between : NoneBetween g.N.CidrNetwork.WIDTH l.table (g.N.CidrNetwork.pair l.network) l.length;
}

abbrev pub decreases-shorter : goal.decreases-shorter
decreases-shorter g l = l.length
