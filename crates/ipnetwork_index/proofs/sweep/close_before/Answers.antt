use Rattle.ipnetwork_index.proofs.Known.{ℕ, by_pair, at_most, is_before, not_before, closes_popped, last_ends, places_popped, top_is, top_read, top_within}
use Rattle.ipnetwork_index.proofs.sweep.close_before.Goals as goal

pub bounds-entries-place : goal.bounds-entries-place
bounds-entries-place g c =
    top_within g.N.CidrNetwork.pair c.args.entries.now c.closing.opened.items c.in-Some.place
    c.closing.invariant.places
    (top_read c.closing.opened.items c.as_slice.result.now c.copied.result _ c.in-Some.place
    c.as_slice.ensures.value c.last.ensures.value c.copied.ensures c.in-Some.is)

pub closing-preserved : goal.closing-preserved
closing-preserved g c =
    let w : ℕ = g.N.CidrNetwork.WIDTH in
    let es = by_pair g.N.CidrNetwork.pair c.args.entries.now in
    let end : ℕ = g.N.CidrNetwork.number c.broadcast-end.result in
    let items = c.closing.opened.items in
    let last = top_read items c.as_slice.result.now c.copied.result _ c.in-Some.place
    c.as_slice.ensures.value c.last.ensures.value c.copied.ensures c.in-Some.is in
    let top = top_is g.N.CidrNetwork.pair w c.args.entries.now items c.in-Some.place end
    c.index-entries-place.result c.closing.invariant.places last c.index-entries-place.is
    c.broadcast-end.ensures in
    let less = c.is_less.ensures.0 c.if-not-is_less.false in
    record {
      places = places_popped es items c.pop.new.self.items c.pop.result c.pop.ensures.items
          c.closing.invariant.places;
      keeps = λ count y l h.
          closes_popped w es count y items c.pop.new.self.items c.pop.result c.in-Some.place end
          (c.closing.invariant.keeps count y l h) c.pop.ensures.items top
          (is_before (g.N.Number.Key.value c.number_of.result)
          (g.N.Number.Key.value c.number_of-in-Some.result) end
          (g.N.CidrNetwork.number c.args.addr) y less c.number_of.ensures.number
          c.number_of-in-Some.ensures.number l);
    }

pub returns-then-not-is_less-clause-last : goal.returns-then-not-is_less-clause-last
returns-then-not-is_less-clause-last g c =
    let end : ℕ = g.N.CidrNetwork.number c.broadcast-end.result in
    let last = top_read c.closing.opened.items c.as_slice.result.now c.copied.result _
    c.in-Some.place c.as_slice.ensures.value c.last.ensures.value c.copied.ensures
    c.in-Some.is in
    let le = at_most c.is_less.result (g.N.Number.Key.value c.number_of.result)
    (g.N.Number.Key.value c.number_of-in-Some.result) c.is_less.ensures c.if-not-is_less.true in
    last_ends g.N.CidrNetwork.WIDTH (by_pair g.N.CidrNetwork.pair c.args.entries.now)
    (g.N.CidrNetwork.number c.args.addr) c.closing.opened.items c.in-Some.place end
    (top_is g.N.CidrNetwork.pair g.N.CidrNetwork.WIDTH c.args.entries.now
    c.closing.opened.items c.in-Some.place end c.index-entries-place.result
    c.closing.invariant.places last c.index-entries-place.is c.broadcast-end.ensures)
    (not_before (g.N.Number.Key.value c.number_of.result)
    (g.N.Number.Key.value c.number_of-in-Some.result) end (g.N.CidrNetwork.number c.args.addr) le
    c.number_of.ensures.number c.number_of-in-Some.ensures.number)
