use Rattle.ipnetwork_family.proofs.Known.{◌≡◌, ◌-◌, ◌*◌, ◌≤◌, take, sum_by, count_leading_zeros}
use Rattle.ipnetwork_family.proofs.segments.leading_ones.Given as goal

abbrev pub invariant-loop-i : goal.invariant-loop-i
invariant-loop-i l = record {
  bound : l.ones ≤ 16 * l.i;
  so_far : l.ones
      ≡ sum_by (λ segment. count_leading_zeros 16 (65535 - segment)) (take l.i l.segments);
}
