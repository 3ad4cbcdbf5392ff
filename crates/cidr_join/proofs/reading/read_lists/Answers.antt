use Rattle.cidr_join.proofs.Known.{◌+◌, List, ℕ, subst, sym, ap, arith, drop, map, drop_all, list_text, ReadSoFar, all_read, items_unread, left_from, none_read, one_read}
use Rattle.cidr_join.proofs.reading.read_lists.Goals as goal

pub items-init : goal.items-init
items-init g c = record {
  within = omega arith;
  so_far = subst
      (λ (l : List (List ℕ)). ReadSoFar (g.L.OpenLists.known c.args.lists.now) c.args.items.now c.args.items.now l)
      (ap (map list_text) (sym c.new-read.ensures.items))
      (none_read (g.L.OpenLists.known c.args.lists.now) c.args.items.now);
}

pub items-preserved : goal.items-preserved
items-preserved g c =
    let items = c.args.items.now in
    let at = c.items.at in record {
      within = omega arith;
      so_far = one_read (g.L.OpenLists.known c.args.lists.now) items (drop at items) (drop (at + 1) items)
          c.index-items-at.result (map list_text c.items.read.items)
          c.items.invariant.so_far (left_from items at c.index-items-at.result c.items-test.true c.index-items-at.is)
          c.in-Some.ensures.0 (map list_text c.read_item.new.read.items) c.in-Some.ensures.1 c.in-Some.ensures.2;
    }

pub returns-in_default : goal.returns-in_default
returns-in_default g c =
    let items = c.args.items.now in
    let at = c.items.at in
    items_unread (g.L.OpenLists.known c.args.lists.now) items (drop at items) (drop (at + 1) items)
    c.index-items-at.result (map list_text c.items.read.items)
    c.items.invariant.so_far (left_from items at c.index-items-at.result c.items-test.true c.index-items-at.is)
    c.read_item.new.errors c.in_default.ensures

pub returns : goal.returns
returns g c =
    all_read (g.L.OpenLists.known c.args.lists.now) c.args.items.now (drop c.items.at c.args.items.now)
    (map list_text c.items.read.items) c.items.invariant.so_far
    (drop_all c.items.at c.args.items.now c.items-test.false)
