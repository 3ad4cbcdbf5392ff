use Rattle.cidr_merge.proofs.Known.{◌≡◌, length}
use Rattle.cidr_merge.specs.Hosts.{are_hosts}
use Rattle.cidr_merge.proofs.hosts.are_hosts.Given as goal
use denote.Text.{Utf8}
use denote.Shadow.{shadow}

abbrev pub invariant-loop-first : goal.invariant-loop-first
invariant-loop-first l = record {
  text : shadow (Utf8 l.left);
  same : are_hosts l.text ≡ are_hosts l.left;
}

abbrev pub decreases-loop-first : goal.decreases-loop-first
decreases-loop-first l = length l.left
