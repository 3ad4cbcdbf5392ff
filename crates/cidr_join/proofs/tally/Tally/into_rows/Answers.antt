use Rattle.cidr_join.proofs.Known.{◌∙◌, ap, sym, map, map-id, iter_end, tally_of, entry_row}
use Rattle.cidr_join.proofs.tally.Tally.into_rows.Goals as goal

pub returns : goal.returns
returns c named texts counted =
    let all = (iter_end (λ e. e) c.args.self.counts.entries c.loop-text.yielded _ _ _ _
    c.into_iter-text-iterator.ensures.into_iter_gives.0 c.loop-text.yielded_by c.in-None.is c.next.ensures.steps).0
    in
    tally_of named texts c.args.self.counts counted c.len.ensures.unique c.loop-text.rows.items
    c.sort_unstable.new.self.items
    (c.loop-text.invariant ∙ ap (map entry_row) (sym (map-id c.loop-text.yielded) ∙ all))
    c.sort_unstable.ensures.permutation c.sort_unstable.ensures.sorted
