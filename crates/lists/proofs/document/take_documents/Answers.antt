use Rattle.lists.proofs.Known.{◌≡◌, ◌+◌, ◌∙◌, List, ◌∷◌, suc, ap, drop, drop-cons, sym, subst, arith, map, view, Value, is_strict, strings_by, strings_of_all, TakesStrings, strings_joined}
use Rattle.lists.proofs.document.take_documents.Goals as goal

pub loop-document-preserved : goal.loop-document-preserved
loop-document-preserved c = λ end h.
    let documents = c.args.documents.now in
    let strings = c.args.strings.now in
    let i = c.loop-document.document-index in
    let x = c.document-item.result in
    let more : suc i ≡ i + 1 = omega arith in
    let cut : drop i documents ≡ x ∷ drop (i + 1) documents =
    drop-cons documents i x c.loop-document-test.true ∙ ap (λ y. y ∷ drop (suc i) documents) (sym c.document-item.is)
    ∙ ap (λ k. x ∷ drop k documents) more in
    c.loop-document.invariant end
    (subst (λ (values : List Value). TakesStrings (is_strict strings) c.loop-document.reader
    (strings_of_all strings (map view values)) end) (sym cut)
    (strings_joined (is_strict strings) c.loop-document.reader c.take_document.new.reader end
    (strings_by strings (view x)) (strings_of_all strings (map view (drop (i + 1) documents)))
    c.take_document.ensures h))
