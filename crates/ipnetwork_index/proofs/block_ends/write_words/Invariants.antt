use Rattle.ipnetwork_index.proofs.Known.{◌≤◌, length, AreBefore, AreTellingUpTo}
use Rattle.ipnetwork_index.proofs.block_ends.write_words.Given as goal

abbrev pub invariant-loop-part : goal.invariant-loop-part
invariant-loop-part l = record {
  within : l.at ≤ length l.lasts;
  before : AreBefore l.lasts 13 l.part l.at;
  telling : AreTellingUpTo l.lasts l.words l.part;
}
