use Rattle.lists.proofs.Known.{◌≡◌, drop, items_view, members_view, items_have_field, members_have_field}
use Rattle.lists.proofs.fields.+has_field.Given as goal

-- none has been found so far
abbrev pub invariant-items_have_field-loop-item : goal.invariant-items_have_field-loop-item
invariant-items_have_field-loop-item l = items_have_field l.name (items_view l.item-items)
    ≡ items_have_field l.name (items_view (drop l.item-index l.item-items))

abbrev pub invariant-members_have_field-loop-key : goal.invariant-members_have_field-loop-key
invariant-members_have_field-loop-key l = members_have_field l.name (members_view l.initial.key-iterator)
    ≡ members_have_field l.name (members_view l.key-iterator)
