use Rattle.ipnetwork_addr.proofs.Known.{◌≡◌, drop, colon_first}
use Rattle.ipnetwork_addr.proofs.first_mark.has_colon_first_by_bytes.Given as goal

-- the bytes read so far contain neither, so the rest decides
abbrev pub invariant-loop-byte : goal.invariant-loop-byte
invariant-loop-byte l = colon_first l.text ≡ colon_first (drop l.byte-index l.text)
