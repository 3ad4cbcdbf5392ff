use Rattle.lists.proofs.Known.{◌≡◌, ◌+◌, ◌∙◌, List, ◌∷◌, suc, ap, drop, drop-cons, sym, subst, arith, view, items_view, members_view, Value, strings_of, strings_of_items, strings_of_members, TakesStrings, strings_joined}
use Rattle.lists.proofs.strings.+take_value.Goals as goal

pub take_items-loop-item-preserved : goal.take_items-loop-item-preserved
take_items-loop-item-preserved t c = λ end h.
    let items = c.deref-item-items.result.now in
    let i = c.loop-item.item-index in
    let x = c.item-item.result in
    let more : suc i ≡ i + 1 = omega arith in
    let cut : drop i items ≡ x ∷ drop (i + 1) items =
    drop-cons items i x c.loop-item-test.true ∙ ap (λ y. y ∷ drop (suc i) items) (sym c.item-item.is)
    ∙ ap (λ k. x ∷ drop k items) more in
    c.loop-item.invariant end
    (subst (λ (values : List Value). TakesStrings c.args.is_strict c.loop-item.lists
    (strings_of_items (items_view values)) end) (sym cut)
    (strings_joined c.args.is_strict c.loop-item.lists c.take_value.new.lists end (strings_of (view x))
    (strings_of_items (items_view (drop (i + 1) items))) c.take_value.ensures h))

pub take_members-loop-member-preserved : goal.take_members-loop-member-preserved
take_members-loop-member-preserved t c = λ end h.
    c.loop-member.invariant end
    (subst (λ es. TakesStrings c.args.is_strict c.loop-member.lists (strings_of_members (members_view es)) end)
    (sym c.in-Some.ensures.steps)
    (strings_joined c.args.is_strict c.loop-member.lists c.take_value.new.lists end
    (strings_of (view c.in-Some.member.now)) (strings_of_members (members_view c.next.new.self))
    c.take_value.ensures h))
