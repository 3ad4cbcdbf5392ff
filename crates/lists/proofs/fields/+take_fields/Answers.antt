use Rattle.lists.proofs.Known.{◌≡◌, ◌+◌, ◌∙◌, Bool, List, ◌∷◌, suc, true, ap, drop, drop-cons, sym, subst, arith, view, items_view, members_view, Value, is_named, string_bytes, texts_within, texts_of_items, texts_of_members, TakesStrings, strings_joined}
use Rattle.lists.proofs.fields.+take_fields.Goals as goal

pub take_items-loop-item-preserved : goal.take_items-loop-item-preserved
take_items-loop-item-preserved t c = λ end h.
    let items = c.deref-item-items.result.now in
    let names = c.args.names.now in
    let i = c.loop-item.item-index in
    let x = c.item-item.result in
    let more : suc i ≡ i + 1 = omega arith in
    let cut : drop i items ≡ x ∷ drop (i + 1) items =
    drop-cons items i x c.loop-item-test.true ∙ ap (λ y. y ∷ drop (suc i) items) (sym c.item-item.is)
    ∙ ap (λ k. x ∷ drop k items) more in
    c.loop-item.invariant end
    (subst (λ (values : List Value). TakesStrings true c.loop-item.lists
    (texts_of_items names c.args.is_within (items_view values)) end) (sym cut)
    (strings_joined true c.loop-item.lists c.take_fields.new.lists end (texts_within names c.args.is_within (view x))
    (texts_of_items names c.args.is_within (items_view (drop (i + 1) items))) c.take_fields.ensures h))

pub take_members-loop-key-preserved : goal.take_members-loop-key-preserved
take_members-loop-key-preserved t c = λ end h.
    let names = c.args.names.now in
    let member = view c.in-Some.member.now in
    let named = c.has-is_named.ensures ∙ ap (is_named names) c.as_str.ensures.value in
    c.loop-key.invariant end
    (subst (λ es. TakesStrings true c.loop-key.lists (texts_of_members names (members_view es)) end)
    (sym c.in-Some.ensures.steps)
    (strings_joined true c.loop-key.lists c.take_fields.new.lists end
    (texts_within names (is_named names (string_bytes c.in-Some.key.now)) member)
    (texts_of_members names (members_view c.next.new.self))
    (subst (λ (within : Bool). TakesStrings true c.loop-key.lists (texts_within names within member)
    c.take_fields.new.lists) named c.take_fields.ensures) h))
