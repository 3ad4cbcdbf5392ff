use Rattle.cidr_join.proofs.Known.{◌+◌, List, ℕ, refl, sym, ap, subst, arith, drop, map, Some, drop_all, lines_of, list_text, no_networks, Takes, Listing, left_from, untaken}
use Rattle.cidr_join.proofs.reading.take_lists.Goals as goal

pub lists-init : goal.lists-init
lists-init g c = record {
  within = omega arith;
  goes_on = λ end h. subst
      (λ (l : Listing). Takes c.args.rules l.networks (lines_of (map list_text c.args.lists.now)) end)
      c.new-listing.ensures h;
}

pub lists-preserved : goal.lists-preserved
lists-preserved g c =
    let lists = c.args.lists.now in
    let at = c.lists.at in
    let item = c.index-lists-at.result in record {
      within = omega arith;
      goes_on = λ end h.
          c.lists.invariant.goes_on end
          (subst (λ (l : List (List ℕ)). Takes c.args.rules c.lists.listing.networks (lines_of l) end)
          (sym (ap (map list_text) (left_from lists at item c.lists-test.true c.index-lists-at.is)))
          (rw c.as_slice.ensures.value at c.in_default.ensures.ok (lines_of (map list_text (drop (at + 1) lists))) end
          h));
    }

pub returns-in-Err : goal.returns-in-Err
returns-in-Err g c =
    let lists = c.args.lists.now in
    let at = c.lists.at in
    let item = c.index-lists-at.result in
    untaken c.args.rules (lines_of (map list_text lists)) no_networks c.lists.listing.networks (list_text item)
    (map list_text (drop (at + 1) lists))
    c.tell_take_fault.new.errors
    (λ end h. c.lists.invariant.goes_on end
    (subst (λ (l : List (List ℕ)). Takes c.args.rules c.lists.listing.networks (lines_of l) end)
    (sym (ap (map list_text) (left_from lists at item c.lists-test.true c.index-lists-at.is))) h))
    c.in-Err.fault.fault (rw c.as_slice.ensures.value at c.in-Err.ensures.err) c.tell_take_fault.ensures

pub returns : goal.returns
returns g c =
    rw c.into_networks.ensures
    (c.lists.invariant.goes_on (Some c.lists.listing.networks)
    (subst (λ (l : List (List ℕ)). Takes c.args.rules c.lists.listing.networks (lines_of l)
    (Some c.lists.listing.networks))
    (sym (ap (map list_text) (drop_all c.lists.at c.args.lists.now c.lists-test.false))) refl))
