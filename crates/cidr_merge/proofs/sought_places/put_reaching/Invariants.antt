use Rattle.cidr_merge.proofs.Known.{◌≤◌, ◌+◌, take, HaveReaching}
use Rattle.cidr_merge.proofs.sought_places.put_reaching.Given as goal

abbrev pub invariant-loop-end : goal.invariant-loop-end
invariant-loop-end l = record {
  room : l.count + l.end ≤ l.begin;
  found : HaveReaching l.places l.end l.begin l.first (take l.count l.buffer);
}

abbrev pub decreases-loop-end : goal.decreases-loop-end
decreases-loop-end l = l.end
