use Rattle.lists.proofs.Known.{◌≡◌, drop, list_all, is_entry_byte}
use Rattle.lists.proofs.looks.are_entry_bytes.Given as goal

abbrev pub invariant-loop-byte : goal.invariant-loop-byte
invariant-loop-byte l = list_all is_entry_byte l.text ≡ list_all is_entry_byte (drop l.byte-index l.text)
