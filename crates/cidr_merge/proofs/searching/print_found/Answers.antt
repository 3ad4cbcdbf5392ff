use Rattle.cidr_merge.proofs.Known.{◌∙◌, ◌+◌, ◌++◌, ap, arith, drop, get_or, length, sym, flat_map, drop-length, at_drop_more, match_lines, sought_as, Sought, all_told, more_so_far, none_so_far, before_more, not_sooner, of_map, passed_over, skipped, unmatched}
use Rattle.cidr_merge.proofs.searching.print_found.Goals as goal

pub loop-at-init : goal.loop-at-init
loop-at-init g c =
    let line = c.args.line.now in
    let of = match_lines line.name.now line.number line.text.now c.args.entry.now in record {
      before = λ k d l. absurd (omega (arith, l));
      within = omega arith;
      told = none_so_far _ _ c.args.output.now (sym (of_map of sought_as c.args.sought.now));
    }

pub loop-at-preserved : goal.loop-at-preserved
loop-at-preserved g c =
    let line = c.args.line.now in
    let entry = c.args.entry.now in
    let sought = c.args.sought.now in
    let places = c.args.places.now in
    let at = c.loop-at.at in
    let next = c.loop-at.next in
    let place = get_or places at 0 in
    let one = c.index-sought-place.result in
    let each = λ (one : Sought). match_lines line.name.now line.number line.text.now entry (sought_as one) in
    let within = c.requires.within at 0 c.loop-at-test.true in record {
      before = before_more places at next c.loop-at-test.true c.loop-at.invariant.before c.if-place-next.false;
      within = omega (arith, within);
      told = more_so_far _ _ (each one) _ c.args.output.now c.loop-at.output c.print_match-more.new.output
          c.loop-at.printed c.print_match-more.result c.either-printed.result c.loop-at.invariant.told
          (skipped each sought next place c.if-place-next.false
          (λ p d low less inside. unmatched line.name.now line.number line.text.now entry (get_or sought p d)
          (passed_over entry sought places at next place c.requires c.loop-at.invariant.before
          (not_sooner places at c.requires.ascend c.loop-at-test.true) p d low less inside))
          ∙ at_drop_more (flat_map each) sought place one within
          ∙ ap (λ (one : Sought). each one ++ flat_map each (drop (place + 1) sought)) (sym c.index-sought-place.is))
          c.print_match-more.ensures c.either-printed.ensures;
    }

pub returns : goal.returns
returns g c =
    let line = c.args.line.now in
    let entry = c.args.entry.now in
    let sought = c.args.sought.now in
    let places = c.args.places.now in
    let at = c.loop-at.at in
    let next = c.loop-at.next in
    let each = λ (one : Sought). match_lines line.name.now line.number line.text.now entry (sought_as one) in
    all_told _ _ c.args.output.now c.loop-at.output c.loop-at.printed c.loop-at.invariant.told
    (skipped each sought next (length sought) c.loop-at.invariant.within
    (λ p d low less inside. unmatched line.name.now line.number line.text.now entry (get_or sought p d)
    (passed_over entry sought places at next (length sought) c.requires c.loop-at.invariant.before
    (λ k d l m. absurd (omega (arith, l, m, c.loop-at-test.false))) p d low less inside))
    ∙ ap (flat_map each) (drop-length sought))
