use Rattle.cidr_merge.proofs.Known.{length, Printed}
use Rattle.std.specs.Prelude.{◌≤◌}
use Rattle.std.specs.List.{All}
use Rattle.ipnetwork_family.specs.Network.{block_size}
use Rattle.ipnetwork_sets.specs.Counts.{count_number}
use Rattle.cidr_merge.specs.Usages.{usage_line}
use Rattle.cidr_merge.proofs.usage.put_lines.Given as goal

abbrev pub invariant-loop-one : goal.invariant-loop-one
invariant-loop-one g l = record {
  within : All (λ one. count_number one.1 ≤ block_size g.A.Address.WIDTH one.0.prefix) l.left;
  printed : Printed (λ one. usage_line l.names g.A.Address.family (one.0, count_number one.1)) l.initial.left l.left
      l.initial.output l.output;
}

abbrev pub decreases-loop-one : goal.decreases-loop-one
decreases-loop-one g l = length l.left
