use Rattle.program.proofs.Known.{◌≤◌, ◌≡◌, take, count}
use Rattle.program.proofs.command_line.count_of.Given as goal

abbrev pub invariant-loop-word : goal.invariant-loop-word
invariant-loop-word l = record {
  within : l.count ≤ l.word-index;
  counted : l.count ≡ count l.text (take l.word-index l.words);
}
