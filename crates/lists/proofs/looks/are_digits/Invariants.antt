use Rattle.lists.proofs.Known.{◌≡◌, drop, list_all, is_ascii_digit}
use Rattle.lists.proofs.looks.are_digits.Given as goal

abbrev pub invariant-loop-byte : goal.invariant-loop-byte
invariant-loop-byte l = list_all is_ascii_digit l.text ≡ list_all is_ascii_digit (drop l.byte-index l.text)
