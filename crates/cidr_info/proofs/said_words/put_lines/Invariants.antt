use Rattle.cidr_info.proofs.Known.{◌≡◌, ◌≤◌, ◌-◌, ◌++◌, length, drop, lines, lines_said}
use Rattle.cidr_info.proofs.said_words.put_lines.Given as goal

-- what was added, and what the lines that are left say, is what all lines say
abbrev pub invariant-lines : goal.invariant-lines
invariant-lines l = record {
  within : l.at ≤ length l.input;
  same : l.all.items ++ lines_said (lines (drop l.at l.input)) ≡ l.initial.all.items ++ lines_said (lines l.input);
}

abbrev pub decreases-lines : goal.decreases-lines
decreases-lines l = length l.input - l.at
