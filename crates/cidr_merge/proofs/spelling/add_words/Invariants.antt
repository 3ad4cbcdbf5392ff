use Rattle.cidr_merge.proofs.Known.{◌≡◌, ◌≤◌, ◌-◌, ◌++◌, take, length, map, string_bytes}
use Rattle.cidr_merge.proofs.spelling.add_words.Given as goal

abbrev pub invariant-loop-at : goal.invariant-loop-at
invariant-loop-at l = record {
  within : l.at ≤ length l.words;
  same : map string_bytes l.all.items ≡ map string_bytes l.initial.all.items ++ map string_bytes (take l.at l.words);
}

abbrev pub decreases-loop-at : goal.decreases-loop-at
decreases-loop-at l = length l.words - l.at
