use Rattle.lists.proofs.Known.{drop, map, view, TakesStrings, ReadLists, is_strict, strings_of_all}
use Rattle.lists.proofs.document.take_documents.Given as goal

-- what is taken from here on is taken from the start
abbrev pub invariant-loop-document : goal.invariant-loop-document
invariant-loop-document l =
    (end : ReadLists) → TakesStrings (is_strict l.strings) l.reader
    (strings_of_all l.strings (map view (drop l.document-index l.documents))) end
    → TakesStrings (is_strict l.strings) l.initial.reader (strings_of_all l.strings (map view l.documents)) end
