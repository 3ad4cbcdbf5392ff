use Rattle.cidr_join.proofs.Known.{◌∙◌, List, false, true, not, sym, ap, arith, drop_all, map, lacks_feed, list_any, list_text, ReadList, cut_next}
use Rattle.cidr_join.proofs.whole.tell_cut.Goals as goal

pub loop-list-preserved : goal.loop-list-preserved
loop-list-preserved g c =
    c.loop-list.invariant ∙ cut_next c.args.lists.now c.loop-list.list-index c.list-item.result false (omega arith)
    c.list-item.is
    (ap not (sym (rw c.as_slice.ensures.value at c.ends_with_feed.ensures) ∙ c.if-not-ends_with_feed.false))

pub returns-then-not-ends_with_feed : goal.returns-then-not-ends_with_feed
returns-then-not-ends_with_feed g c =
    sym (c.loop-list.invariant ∙ cut_next c.args.lists.now c.loop-list.list-index c.list-item.result true (omega arith)
    c.list-item.is
    (ap not (sym (rw c.as_slice.ensures.value at c.ends_with_feed.ensures) ∙ c.if-not-ends_with_feed.true)))

pub returns : goal.returns
returns g c =
    sym (c.loop-list.invariant ∙ ap (λ (l : List ReadList). list_any lacks_feed (map list_text l))
    (drop_all c.loop-list.list-index c.args.lists.now (omega arith)))
