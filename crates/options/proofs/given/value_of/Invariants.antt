use Rattle.options.proofs.Known.{◌≡◌, ◌≤◌, ◌-◌, length, drop, last_value, value_of}
use Rattle.options.proofs.given.value_of.Given as goal
use denote.Text.{Utf8}
use denote.Shadow.{shadow}

abbrev pub invariant-loop-at : goal.invariant-loop-at
invariant-loop-at l = record {
  text : shadow (Utf8 l.value);
  within : l.at ≤ length l.items;
  same : last_value l.row l.value (drop l.at l.items) ≡ value_of l.items l.row;
}

abbrev pub decreases-loop-at : goal.decreases-loop-at
decreases-loop-at l = length l.items - l.at
