use Rattle.cidr_join.proofs.Known.{◌∷◌, ◌∙◌, [], List, ℕ, inr, refl, sym, ap, subst, map, map-append, AreRead, list_text, Unread, ReadList, one_unread}
use Rattle.cidr_join.proofs.reading.read_item.Goals as goal

pub returns-in-Ok-put : goal.returns-in-Ok-put
returns-in-Ok-put g c =
    let known = g.L.OpenLists.known c.args.lists.now in
    let list : ReadList = record { name = c.new.result; text = c.in-Ok.text } in
    let more : List (List ℕ) = list_text list ∷ [] in (
      more,
      subst (λ (n : List (List ℕ)). AreRead known n more) (sym c.in-Some.ensures)
          (c.in-Ok.text.items, [], c.in-Ok.ensures.ok, refl, refl),
      ap (map list_text) c.in-Ok-put.ensures ∙ map-append list_text c.args.read.now.items (list ∷ []),
    )

pub returns-in-Err-put : goal.returns-in-Err-put
returns-in-Err-put g c = inr (c.args.errors.now, c.tell_of.ensures)

pub returns-in-Err : goal.returns-in-Err
returns-in-Err g c =
    let known = g.L.OpenLists.known c.args.lists.now in
    subst (λ (n : List (List ℕ)). Unread known n c.tell_bytes_fault.new.errors) (sym c.in-Some.ensures)
    (one_unread known _ [] c.tell_bytes_fault.new.errors c.in-Err.fault c.in-Err.ensures.err c.tell_bytes_fault.ensures)
