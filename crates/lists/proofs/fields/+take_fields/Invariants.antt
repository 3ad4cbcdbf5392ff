use Rattle.lists.proofs.Known.{true, drop, items_view, members_view, texts_of_items, texts_of_members, TakesStrings, ReadLists}
use Rattle.lists.proofs.fields.+take_fields.Given as goal

-- what is taken from here on is taken from the start
abbrev pub invariant-take_items-loop-item : goal.invariant-take_items-loop-item
invariant-take_items-loop-item l =
    (end : ReadLists) → TakesStrings true l.lists
    (texts_of_items l.names l.is_within (items_view (drop l.item-index l.item-items))) end
    → TakesStrings true l.initial.lists (texts_of_items l.names l.is_within (items_view l.item-items)) end

abbrev pub invariant-take_members-loop-key : goal.invariant-take_members-loop-key
invariant-take_members-loop-key l =
    (end : ReadLists) → TakesStrings true l.lists (texts_of_members l.names (members_view l.key-iterator)) end
    → TakesStrings true l.initial.lists (texts_of_members l.names (members_view l.initial.key-iterator)) end
