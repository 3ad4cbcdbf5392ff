use Rattle.options.proofs.Known.{◌≡◌, ◌≤◌, ◌-◌, ◌++◌, length, drop, items_of}
use Rattle.options.specs.declared.items.Mode.TheVariants as modes
use Rattle.options.proofs.reading.items_of.Given as goal

abbrev pub invariant-loop-at : goal.invariant-loop-at
invariant-loop-at l = record {
  within : l.at ≤ length l.words;
  same : l.all.items ++ items_of l.rows l.mode (drop l.at l.words) ≡ items_of l.rows modes.Free l.words;
}

abbrev pub decreases-loop-at : goal.decreases-loop-at
decreases-loop-at l = length l.words - l.at
