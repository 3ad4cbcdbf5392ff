use Rattle.cidr_info.proofs.Known.{◌≡◌, ◌≤◌, ◌-◌, ◌++◌, length, drop, words_said}
use Rattle.cidr_info.proofs.said_words.words_said.Given as goal

abbrev pub invariant-loop-at : goal.invariant-loop-at
invariant-loop-at l = record {
  within : l.at ≤ length l.items;
  same : l.all.items ++ words_said l.input (drop l.at l.items) ≡ words_said l.input l.items;
}

abbrev pub decreases-loop-at : goal.decreases-loop-at
decreases-loop-at l = length l.items - l.at
