use Rattle.lists.proofs.Known.{drop, items_view, members_view, strings_of_items, strings_of_members, TakesStrings, ReadLists}
use Rattle.lists.proofs.strings.+take_value.Given as goal

-- what is taken from here on is taken from the start
abbrev pub invariant-take_items-loop-item : goal.invariant-take_items-loop-item
invariant-take_items-loop-item l =
    (end : ReadLists) → TakesStrings l.is_strict l.lists
    (strings_of_items (items_view (drop l.item-index l.item-items))) end
    → TakesStrings l.is_strict l.initial.lists (strings_of_items (items_view l.item-items)) end

abbrev pub invariant-take_members-loop-member : goal.invariant-take_members-loop-member
invariant-take_members-loop-member l =
    (end : ReadLists) → TakesStrings l.is_strict l.lists (strings_of_members (members_view l.member-iterator)) end
    → TakesStrings l.is_strict l.initial.lists (strings_of_members (members_view l.initial.member-iterator)) end
