use Rattle.ipnetwork_index.proofs.Known.{◌≡◌, ◌++◌, length}
use Rattle.ipnetwork_index.proofs.answers.entries_of.Given as goal

abbrev pub invariant-listing : goal.invariant-listing
invariant-listing g l = l.initial.left ≡ l.entries.items ++ l.left

abbrev pub decreases-listing : goal.decreases-listing
decreases-listing g l = length l.left
