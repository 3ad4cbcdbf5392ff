use Rattle.cidr_merge.proofs.Known.{◌+◌, ◌<◌, ◌≡◌, ◌∙◌, ℕ, length, arith, ap, get_or, refl, subst, sym, take, drop, filter, get_or_default, FiltersInPlace-more_swap, FiltersInPlace-more_no, overlaps, Placed, as_it_was, swapped_rest, same_further}
use Rattle.cidr_merge.proofs.overlapping.keep_reaching.Goals.{then-overlaps, else-overlaps}
use Rattle.cidr_merge.proofs.overlapping.keep_reaching.Goals as goal

pub swap-requires-clause-a_in_bounds : goal.swap-requires-clause-a_in_bounds
swap-requires-clause-a_in_bounds c =
    omega (
      arith,
      c.loop-index.invariant.behind,
      c.loop-index.invariant.long,
      c.loop-index-test.true,
      c.requires.within,
      c.requires.place,
    )

pub loop-index-init : goal.loop-index-init
loop-index-init c = record {
  behind = omega arith;
  long = refl;
  ahead = refl;
  filtered =
      λ later is. record {
        front = refl;
        rest = refl;
        behind = omega arith;
        within =
            omega arith;
        long = refl;
      };
}

pub loop-index-preserved : goal.loop-index-preserved
loop-index-preserved c =
    let old = c.args.entries.now in
    let entries = c.loop-index.entries in
    let index = c.loop-index.index in
    let count = c.loop-index.count in
    let h = c.loop-index.invariant in
    let within : index < length entries =
    omega (arith, h.long, c.loop-index-test.true, c.requires.within, c.requires.place) in
    let next = same_further entries old index (index + 1) (omega arith) h.ahead in
    let here : (later : Placed) → get_or entries index later
    ≡ get_or entries index (get_or entries index later) =
    λ later. get_or_default entries index later (get_or entries index later) within in
    let tested : (later : Placed) → later ≡ get_or old c.args.place later
    → overlaps later (get_or entries index later) ≡ c.overlaps.result =
    λ later is. sym (c.overlaps.ensures later (get_or entries index later)
    (is ∙ sym (as_it_was old entries index c.args.place later h.ahead
    (omega (arith, c.loop-index-test.true, c.requires.within)))) (here later)) in
    elim c.if-overlaps.branch [
      | then-overlaps w ↦ rw (w.entries-is, w.count-is) (record {
        behind = omega (arith, h.behind);
        long = w.swap.ensures.len ∙ h.long;
        ahead = swapped_rest entries w.swap.new.self count index w.swap.ensures.by_index h.behind
            within ∙ next;
        filtered = λ later is. FiltersInPlace-more_swap (h.filtered later is) within
            (tested later is ∙ w.if-overlaps.true) (here later) w.swap.ensures.by_index;
      })
      | else-overlaps w ↦ rw (w.entries-is, w.count-is) (record {
        behind = omega (arith, h.behind);
        long = h.long;
        ahead = next;
        filtered = λ later is. FiltersInPlace-more_no (h.filtered later is) within
            (tested later is ∙ w.if-overlaps.false) (here later);
      })
    ]

pub returns : goal.returns
returns c =
    let h = c.loop-index.invariant in
    let at : c.loop-index.index ≡ c.args.kept =
    omega (arith, c.loop-index-test.false, c.loop-index.auto.index-end) in
    record {
      front = λ later is. (h.filtered later is).front ∙ ap
          (λ (n : ℕ). filter (overlaps later) (take n c.args.entries.now)) at;
      ahead = subst (λ (n : ℕ). drop n c.loop-index.entries ≡ drop n c.args.entries.now) at h.ahead;
      long = h.long;
      fewer = omega (arith, h.behind, at);
    }
