use Rattle.ipnetwork_index.proofs.Known.{◌-◌, length, IsScanned}
use Rattle.ipnetwork_index.proofs.block_ends.word_of.Given as goal

abbrev pub invariant-loop-at : goal.invariant-loop-at
invariant-loop-at l = IsScanned l.lasts l.part l.start l.ends l.next l.at

abbrev pub decreases-loop-at : goal.decreases-loop-at
decreases-loop-at l = length l.lasts - l.at
