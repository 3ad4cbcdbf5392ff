use Rattle.line_addresses.proofs.Known.{◌≡◌, ◌-◌, ◌^◌, take, min, number_of}
use Rattle.line_addresses.proofs.numbers.number_of.Given as goal

abbrev pub invariant-loop-digit : goal.invariant-loop-digit
invariant-loop-digit l = l.number ≡ min (number_of (take l.digit-index l.digits)) (2 ^ 64 - 1)
