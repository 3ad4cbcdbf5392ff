use Rattle.lists.proofs.Known.{◌≡◌, ◌<◌, ℕ, List, length, sym, subst, Result, Ok, Err, IfErr, Value, view, ReadFault, OutOfMemory, FailsDocuments, document_has_text}
use Rattle.lists.proofs.json_texts.documents_of.Goals as goal

-- memory ran out for bytes that are a document
out_of_memory : {T : Type 0} (result : Result T ReadFault) (number : ℕ) (bytes : List ℕ) → 0 < length bytes
    → IfErr result (λ fault. fault ≡ OutOfMemory) → IfErr result (FailsDocuments number bytes)
out_of_memory (Ok done) number bytes some h = tt
out_of_memory (Err fault) number bytes some h = subst (λ (f : ReadFault). FailsDocuments number bytes f) (sym h) some

pub returns-in-Ok-clause-err : goal.returns-in-Ok-clause-err
returns-in-Ok-clause-err c = out_of_memory c.alone.result c.args.place c.args.bytes.now
    (document_has_text c.args.bytes.now (view c.in-Ok.value) c.in-Ok.ensures.ok.1) c.alone.ensures.err
