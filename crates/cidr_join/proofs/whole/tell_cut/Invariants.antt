use Rattle.cidr_join.proofs.Known.{◌≡◌, drop, map, lacks_feed, list_any, list_text}
use Rattle.cidr_join.proofs.whole.tell_cut.Given as goal

-- none has been found so far
abbrev pub invariant-loop-list : goal.invariant-loop-list
invariant-loop-list g l = list_any lacks_feed (map list_text l.lists)
    ≡ list_any lacks_feed (map list_text (drop l.list-index l.lists))
