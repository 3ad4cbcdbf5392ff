use Rattle.lists.proofs.Known.{◌≡◌, drop, map, string_bytes, is_named}
use Rattle.lists.proofs.chosen.FieldNames.has.Given as goal

-- none has been found so far
abbrev pub invariant-loop-name : goal.invariant-loop-name
invariant-loop-name l = is_named (map string_bytes l.name-items) l.key
    ≡ is_named (map string_bytes (drop l.name-index l.name-items)) l.key
