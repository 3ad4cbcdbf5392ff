use Rattle.lists.proofs.Known.{◌≡◌, take, count_of}
use Rattle.lists.proofs.looks.count_of.Given as goal

-- the count is of the bytes before this one
abbrev pub invariant-loop-other : goal.invariant-loop-other
invariant-loop-other l = l.count ≡ count_of l.byte (take l.other-index l.text)
