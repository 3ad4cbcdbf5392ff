use Rattle.cidr_filter.proofs.Known.{◌≡◌, ◌+◌, ◌∷◌, ◌∙◌, ◌<◌, ℕ, suc, List, inl, inr, refl, sym, ap, subst, arith, length, get_or, drop, drop-cons, drop_all, err_from_is_err_and, Item, ReadsItems, StopsAtItems}
use Rattle.cidr_filter.proofs.reading.read_lists.Goals as goal

here : (items : List Item) (at : ℕ) (item : Item) → at < length items → item ≡ get_or items at item
    → drop at items ≡ item ∷ drop (at + 1) items
here items at item within is =
    let next : suc at ≡ at + 1 = omega arith in
    drop-cons items at item within ∙ ap (λ i. i ∷ drop (suc at) items) (sym is) ∙ ap (λ n. item ∷ drop n items) next

pub items-preserved : goal.items-preserved
items-preserved g c =
    let known = g.L.OpenLists.known c.args.lists.now in
    let at = c.items.at in
    let left = here c.args.items.now at c.index-items-at.result c.items-test.true c.index-items-at.is in
    record {
      within = omega arith;
      memory = c.in_ok-read_item.ensures.memory;
      reads = λ after rest. c.items.invariant.reads after
          (subst (λ (i : List Item). ReadsItems known at i c.items.reader after) (sym left)
          (c.read_item.new.reader, c.in_ok-read_item.ensures.read, rest));
      stops = λ fault refused rest. c.items.invariant.stops fault refused
          (subst (λ (i : List Item). StopsAtItems known at i c.items.reader fault refused) (sym left)
          (inr (c.read_item.new.reader, c.in_ok-read_item.ensures.read, c.in_ok-read_item.ensures.memory, rest)));
    }

pub returns-clause-read : goal.returns-clause-read
returns-clause-read g c =
    let known = g.L.OpenLists.known c.args.lists.now in
    c.items.invariant.reads c.items.reader
    (subst (λ (i : List Item). ReadsItems known c.items.at i c.items.reader c.items.reader)
    (sym (drop_all c.items.at c.args.items.now c.items-test.false)) refl)

pub returns-in_err-read_item-clause-stopped : goal.returns-in_err-read_item-clause-stopped
returns-in_err-read_item-clause-stopped g c =
    let known = g.L.OpenLists.known c.args.lists.now in
    let left = here c.args.items.now c.items.at c.index-items-at.result c.items-test.true c.index-items-at.is in
    let p = err_from_is_err_and c.from_residual.result c.from_residual.ensures.1 in
    rw (p.1, p.2)
    (c.items.invariant.stops c.in_err-read_item.field-0.0 c.read_item.new.reader.refused
    (subst (λ (i : List Item). StopsAtItems known c.items.at i c.items.reader c.in_err-read_item.field-0.0
    c.read_item.new.reader.refused) (sym left) (inl c.in_err-read_item.ensures.stopped)))
