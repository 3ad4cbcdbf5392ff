use Rattle.lists.proofs.Known.{◌≡◌, drop, map, view, list_any, has_field}
use Rattle.lists.proofs.chosen.have_field.Given as goal

-- none has been found so far
abbrev pub invariant-loop-document : goal.invariant-loop-document
invariant-loop-document l = list_any (has_field l.name) (map view l.documents)
    ≡ list_any (has_field l.name) (map view (drop l.document-index l.documents))
