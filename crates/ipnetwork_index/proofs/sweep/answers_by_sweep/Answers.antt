use Rattle.ipnetwork_index.proofs.Known.{◌≡◌, ℕ, ◌<◌, List, map, length, get_or, arith, subst, length-map, by_pair, AreAnswersUpTo, AreOpen, answers_more, read_number, open_later, open_places, swept_tells}
use Rattle.ipnetwork_index.proofs.sweep.answers_by_sweep.Goals as goal

pub open_up_to-count-requires-clause-open : goal.open_up_to-count-requires-clause-open
open_up_to-count-requires-clause-open g c =
    let f = g.N.CidrNetwork.number in
    let lasts : List ℕ = map f c.args.lasts.now in
    let at : ℕ = c.loop-last.last-index in
    let size : length lasts ≡ length c.args.lasts.now = length-map c.args.lasts.now f in
    let own : at < length lasts = omega (arith, c.loop-last-test.true, size) in
    let here : get_or lasts at 0 ≡ f c.last-item.result
    = read_number f c.args.lasts.now at c.last-item.result (omega (arith, c.loop-last-test.true))
    c.last-item.is in
    c.loop-last.invariant.from (f c.last-item.result)
    (λ k l. let a = c.requires.partition.ascending k at l own in omega (arith, a, here))

pub innermost-prefix-requires-clause-places : goal.innermost-prefix-requires-clause-places
innermost-prefix-requires-clause-places g c =
    let w : ℕ = g.N.CidrNetwork.WIDTH in
    let es = by_pair g.N.CidrNetwork.pair c.args.entries.now in
    let x : ℕ = g.N.CidrNetwork.number c.last-item.result in
    rw c.as_slice.ensures.value
    (open_places w es c.open_up_to-count.result x c.close_before.new.opened.items
    (c.close_before.ensures.kept c.open_up_to-count.result x (omega arith) c.open_up_to-count.ensures.begun))

pub loop-last-preserved : goal.loop-last-preserved
loop-last-preserved g c =
    let f = g.N.CidrNetwork.number in
    let w : ℕ = g.N.CidrNetwork.WIDTH in
    let es = by_pair g.N.CidrNetwork.pair c.args.entries.now in
    let lasts : List ℕ = map f c.args.lasts.now in
    let at : ℕ = c.loop-last.last-index in
    let x : ℕ = f c.last-item.result in
    let count : ℕ = c.open_up_to-count.result in
    let opened = c.close_before.new.opened.items in
    let here : get_or lasts at 0 ≡ x
    = read_number f c.args.lasts.now at c.last-item.result (omega (arith, c.loop-last-test.true))
    c.last-item.is in
    let now : AreOpen w es count x opened
    = c.close_before.ensures.kept count x (omega arith) c.open_up_to-count.ensures.begun in
    record {
      from = λ y h. open_later w es count x y opened now
          (let a = h at (omega arith) in omega (arith, a, here));
      swept = λ t blocks is. rw (c.in_ok-push.ensures.items, c.in_ok-push-2.ensures.items)
          (answers_more w t lasts c.loop-last.prefixes.items c.loop-last.values.items at
          c.innermost-prefix.result.0 c.innermost-prefix.result.1
          (c.loop-last.invariant.swept t blocks is)
          (rw here (swept_tells w t es blocks c.listing.ensures.stored c.listing.ensures.listed
          c.listing.ensures.ascending c.listing.ensures.wider_first is g.met.N.AddressSpace.few_bits
          count x opened c.innermost-prefix.result.0 c.innermost-prefix.result.1 now
          c.open_up_to-count.ensures.all c.close_before.ensures.last
          (rw c.as_slice.ensures.value at c.innermost-prefix.ensures))));
    }

pub returns : goal.returns
returns g c = λ t blocks is.
    let lasts : List ℕ = map g.N.CidrNetwork.number c.args.lasts.now in
    let all : c.loop-last.last-index ≡ length c.args.lasts.now
    = omega (arith, c.loop-last-test.false, c.loop-last.auto.last-index-end) in
    subst (λ (n : ℕ). AreAnswersUpTo g.N.CidrNetwork.WIDTH t lasts c.loop-last.prefixes.items
    c.loop-last.values.items n) all (c.loop-last.invariant.swept t blocks is)
