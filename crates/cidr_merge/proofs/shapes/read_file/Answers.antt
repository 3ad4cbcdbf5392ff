use Rattle.cidr_merge.proofs.Known.{◌≡◌, ◌∙◌, ℕ, List, refl, ap, subst, Option, Some, Result, Ok, Err, OnOk, IfErr, Strings, ReadsDocument, StopsAtDocument, KnownLists, ReadLists, ReadFault, ReadsFile, StopsFile, strings_in}
use Rattle.cidr_merge.proofs.shapes.read_file.Goals as goal

-- the strings of documents are read
document_reads : {T : Type 0} (result : Result T ReadFault) (given : Option Strings) (strings : Strings)
    (known : KnownLists) (place : ℕ) (name : List ℕ) (before after : ReadLists) → Some strings ≡ given
    → OnOk result (ReadsDocument known strings place name before after)
    → OnOk result (ReadsFile given known place name before after)
document_reads result given strings known place name before after e h =
    subst (λ (g : Option Strings). OnOk result (ReadsFile g known place name before after)) e h

-- the reader has the refused lines
document_stops : {T : Type 0} (result : Result T ReadFault) (given : Option Strings) (strings : Strings)
    (known : KnownLists) (place : ℕ) (name : List ℕ) (before after : ReadLists) → Some strings ≡ given
    → IfErr result (λ fault. StopsAtDocument known strings place name before fault after)
    → IfErr result (λ fault. StopsFile given known place name before fault after.refused)
document_stops (Ok done) given strings known place name before after e h = tt
document_stops (Err fault) given strings known place name before after e h =
    subst (λ (g : Option Strings). StopsFile g known place name before fault after.refused) e (after, h, refl)

pub returns-in-Some : goal.returns-in-Some
returns-in-Some g c =
    let known = g.L.OpenLists.known c.args.context.now.lists.now in
    let given = strings_in c.args.shape c.args.context.now.sets.now.fields in
    let strings = c.in-Some.strings in
    let same = c.in-Some.ensures ∙ ap (strings_in c.args.shape) c.field_names.ensures in
    let before = c.args.reader.now in
    let after = c.read_document.new.reader in
    record {
      read = document_reads c.read_document.result given strings known c.args.place c.args.name.now before after same
          c.read_document.ensures.read;
      memory = c.read_document.ensures.memory;
      stopped = document_stops c.read_document.result given strings known c.args.place c.args.name.now before after same
          c.read_document.ensures.stopped;
    }
