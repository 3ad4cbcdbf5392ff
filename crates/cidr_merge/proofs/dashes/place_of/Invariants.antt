use Rattle.cidr_merge.proofs.Known.{length, ◌-◌, ◌≡◌, ◌+◌, ◌≤◌, drop, position_or_len, is}
use Rattle.cidr_merge.proofs.dashes.place_of.Given as goal

abbrev pub invariant-loop-place : goal.invariant-loop-place
invariant-loop-place l = record {
  within : l.place ≤ length l.words;
  counted : position_or_len (is l.text) l.words ≡ l.place + position_or_len (is l.text)
      (drop l.place l.words);
}

abbrev pub decreases-loop-place : goal.decreases-loop-place
decreases-loop-place l = length l.words - l.place
