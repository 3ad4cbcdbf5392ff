use Rattle.ipnetwork_addr.proofs.Known.{◌≡◌, ◌+◌, ◌*◌, ◌≤◌, ◌∷◌, ◌++◌, length, take, flat_map, colon, hex}
use Rattle.ipnetwork_addr.proofs.hexadecimal.push_groups.Given as goal

abbrev pub invariant-loop-group : goal.invariant-loop-group
invariant-loop-group l =
    (l.text.bytes ≡ l.initial.text.bytes ++ flat_map (λ x. colon ∷ hex x) (take l.group-index l.rest))
    × (length l.text.bytes ≤ length l.fn.text.bytes + 4 + 5 * l.group-index)
