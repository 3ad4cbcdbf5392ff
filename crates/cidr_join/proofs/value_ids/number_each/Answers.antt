use Rattle.cidr_join.proofs.Known.{◌∙◌, ◌++◌, ◌∷◌, [], List, ℕ, map, subst, sym, ap, append_assoc, append-nil, by_pair, found_by, Found, NumbersSoFar, none_numbered, one_numbered, all_numbered, numbers_added}
use Rattle.cidr_join.proofs.value_ids.number_each.Goals as goal

pub listing-init : goal.listing-init
listing-init g c = record {
  behind = ap (λ l. c.args.founds.now.items ++ map (λ e. found_by c.args.network g.N.OfEither.either_of e.0 e.1) l)
      c.iter-left.ensures.entries;
  so_far = rw c.new-numbers.ensures (none_numbered (found_by c.args.network g.N.OfEither.either_of) c.args.table.now
      (by_pair g.N.CidrNetwork.pair c.iter-left.result) c.args.founds.now.items c.iter-left.ensures.entries);
}

pub listing-preserved : goal.listing-preserved
listing-preserved g c =
    let pair = g.N.CidrNetwork.pair in
    let w : ℕ = g.N.CidrNetwork.WIDTH in
    let by = found_by c.args.network g.N.OfEither.either_of in
    let entry = c.in-Some.entry in
    let before = c.listing.invariant in
    let items = c.listing.founds.items in
    let here : Found = by (pair entry.0) entry.1 in
    let was = subst (λ l. NumbersSoFar by c.args.table.now (by_pair pair l) c.listing.numbers items)
    c.in-Some.ensures.steps before.so_far in
    let pushed = c.in_ok-put.ensures ∙ ap (λ (f : Found). items ++ f ∷ []) c.found_of.ensures in
    let number = c.len.ensures ∙ c.listing.founds.ok.0 in
    record {
      behind = ap (λ (l : List Found). l ++ map (λ e. by e.0 e.1) (by_pair pair c.next.new.self)) pushed
          ∙ append_assoc items (here ∷ []) (map (λ e. by e.0 e.1) (by_pair pair c.next.new.self))
          ∙ ap (λ l. items ++ map (λ e. by e.0 e.1) (by_pair pair l)) (sym c.in-Some.ensures.steps) ∙ before.behind;
      so_far = rw (c.in_ok-insert.ensures.set, pushed, number) (one_numbered by c.args.table.now w (pair entry.0)
          entry.1 (by_pair pair c.next.new.self) c.listing.numbers items c.iter-left.ensures.blocks was);
    }

pub returns : goal.returns
returns g c =
    let pair = g.N.CidrNetwork.pair in
    let by = found_by c.args.network g.N.OfEither.either_of in
    let before = c.listing.invariant in
    let items = c.listing.founds.items in
    numbers_added by c.args.table.now c.listing.numbers c.args.founds.now.items items c.from_table.result
    c.from_table.ensures
    (sym (append-nil items) ∙ ap (λ l. items ++ map (λ e. by e.0 e.1) (by_pair pair l))
    (sym c.in_default.ensures.steps.0) ∙ before.behind)
    (all_numbered by c.args.table.now c.listing.numbers items (subst (λ l. NumbersSoFar by c.args.table.now
    (by_pair pair l) c.listing.numbers items) c.in_default.ensures.steps.0 before.so_far))
