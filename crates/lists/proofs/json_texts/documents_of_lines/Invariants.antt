use Rattle.lists.proofs.Known.{◌≡◌, map, view, Some, documents_of_lines}
use Rattle.lists.proofs.json_texts.documents_of_lines.Given as goal

-- the lines so far are these documents
abbrev pub invariant-loop-line : goal.invariant-loop-line
invariant-loop-line l =
    documents_of_lines (map (λ line. line.now) l.yielded) ≡ Some (map view l.documents.items)
