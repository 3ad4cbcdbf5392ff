use Rattle.cidr_merge.proofs.Known.{◌≡◌, take, large_number}
use Rattle.cidr_merge.proofs.bounds.large_number.Given as goal

abbrev pub invariant-loop-digit : goal.invariant-loop-digit
invariant-loop-digit l = l.number ≡ large_number (take l.digit-index l.digits)
