use Rattle.cidr_merge.proofs.Known.{◌≡◌, ◌++◌, length}
use Rattle.cidr_merge.specs.Hosts.{hosts_in}
use Rattle.cidr_merge.proofs.hosts.hosts_in.Given as goal
use denote.Text.{Utf8}
use denote.Shadow.{shadow}

abbrev pub invariant-loop-first : goal.invariant-loop-first
invariant-loop-first l = record {
  text : shadow (Utf8 l.left);
  read : l.numbers.items ++ hosts_in l.left ≡ hosts_in l.text;
}

abbrev pub decreases-loop-first : goal.decreases-loop-first
decreases-loop-first l = length l.left
