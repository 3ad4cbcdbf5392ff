use Rattle.line_addresses.proofs.Known.{◌≡◌, ◌-◌, ◌≤◌, length, drop, slice_get, words_of}
use Rattle.line_addresses.proofs.word.word_of.Given as goal

abbrev pub invariant-words : goal.invariant-words
invariant-words l = record {
  within : l.at ≤ length l.line;
  same : slice_get (words_of l.line) (l.number - 1) ≡ slice_get (words_of (drop l.at l.line)) l.more;
}

abbrev pub decreases-words : goal.decreases-words
decreases-words l = length l.line - l.at
