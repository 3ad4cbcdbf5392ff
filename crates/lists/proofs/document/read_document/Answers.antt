use Rattle.lists.proofs.Known.{List, ℕ, false, subst, sym, OnOk, IfErr, StopsAtDocument, at_list, TakesBytes, FailsBytes, ReadFault, stops_unread, document_ends}
use Rattle.lists.proofs.document.read_document.Goals as goal

pub returns-in-Err-clause-stopped : goal.returns-in-Err-clause-stopped
returns-in-Err-clause-stopped g c =
    let known = g.L.OpenLists.known c.args.lists.now in
    subst (λ (fault : ReadFault). StopsAtDocument known c.args.strings.now c.args.place c.args.name.now c.args.reader.now
    fault c.args.reader.now) (sym c.not_read.ensures)
    (stops_unread known c.args.strings.now c.args.name.now c.args.place c.args.reader.now c.in-Err.fault
    c.in-Err.ensures.err)

pub returns : goal.returns
returns g c =
    let result = c.take_bytes.result in
    let before = c.args.reader.now in
    let after = c.take_bytes.new.reader in
    let ends = document_ends (g.L.OpenLists.known c.args.lists.now) c.args.strings.now c.args.name.now c.args.place before
    c.in-Ok.bytes.items after c.in-Ok.ensures.ok result
    (subst (λ (bytes : List ℕ). OnOk result (TakesBytes c.args.strings.now (at_list before c.args.place) bytes after
    false)) c.as_slice.ensures.value c.take_bytes.ensures.read)
    (subst (λ (bytes : List ℕ). IfErr result (FailsBytes c.args.strings.now c.args.place bytes before after))
    c.as_slice.ensures.value c.take_bytes.ensures.stopped) in
    record { read = ends.0; memory = ends.1; stopped = ends.2 }
