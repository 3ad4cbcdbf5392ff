use Rattle.cidr_merge.proofs.Known.{◌≡◌, ◌≤◌, ◌-◌, drop, length}
use Rattle.std.specs.List.{list_any}
use Rattle.std.specs.Option.{is_none}
use Rattle.cidr_merge.proofs.placing.does_lack.Given as goal

abbrev pub invariant-loop-at : goal.invariant-loop-at
invariant-loop-at g l = record {
  within : l.at ≤ length l.places;
  same : list_any is_none l.places ≡ list_any is_none (drop l.at l.places);
}

abbrev pub decreases-loop-at : goal.decreases-loop-at
decreases-loop-at g l = length l.places - l.at
