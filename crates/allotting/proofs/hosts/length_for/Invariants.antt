use Rattle.allotting.proofs.Known.{ℕ, ◌<◌, ◌≤◌, host_count}
use Rattle.allotting.proofs.hosts.length_for.Given as goal

abbrev pub invariant-loop-hosts : goal.invariant-loop-hosts
invariant-loop-hosts g l = record {
  fits : l.prefix ≤ g.N.CidrNetwork.WIDTH;
  longest : (q : ℕ) → l.prefix < q → q ≤ g.N.CidrNetwork.WIDTH → host_count g.N.CidrNetwork.WIDTH q < l.hosts;
}

abbrev pub decreases-loop-hosts : goal.decreases-loop-hosts
decreases-loop-hosts g l = l.prefix
