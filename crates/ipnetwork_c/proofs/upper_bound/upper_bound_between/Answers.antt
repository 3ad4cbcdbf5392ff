use Rattle.ipnetwork_c.proofs.Known.{◌≡◌, ◌+◌, ◌-◌, ◌/◌, ℕ, List, map, subst, arith, iff_false, length-map, Network, read_pair, not_below, IsBetween, between_behind, between_before, between_met}
use Rattle.ipnetwork_c.proofs.upper_bound.upper_bound_between.Goals as goal

pub loop-count-init : goal.loop-count-init
loop-count-init g c =
    let ns : List Network = map g.H.HoldsNetwork.held c.args.list.now in
    let ordered = c.requires.ordered in
    let within = c.requires.within in
    let e : c.args.end ≡ c.args.begin + (c.args.end - c.args.begin) = omega arith in
    record {
      within = omega arith;
      between =
          subst (λ (k : ℕ). IsBetween ns (g.H.Numbered.value c.args.number) c.args.begin k) e c.requires.between;
    }

pub loop-count-preserved-then-begins_up_to : goal.loop-count-preserved-then-begins_up_to
loop-count-preserved-then-begins_up_to g c =
    let ns : List Network = map g.H.HoldsNetwork.held c.args.list.now in
    let x : ℕ = g.H.Numbered.value c.args.number in
    let within = c.loop-count.invariant.within in
    let half : ℕ = c.loop-count.count / 2 in
    let middle : ℕ = c.loop-count.from + half in
    let b : Network = g.H.HoldsNetwork.held c.index-list-from.result in
    let is = read_pair g.H.HoldsNetwork.held c.args.list.now middle c.index-list-from.result (omega arith)
    c.index-list-from.is in
    let met : IsBetween ns x (middle + 1) (c.loop-count.from + c.loop-count.count)
    = between_behind ns x c.loop-count.from (c.loop-count.from + c.loop-count.count) middle b
    c.loop-count.invariant.between is (c.begins_up_to.ensures.0 c.if-begins_up_to.true) in
    let begin : middle + 1 ≡ c.loop-count.from + (half + 1) = omega arith in
    let end : c.loop-count.from + c.loop-count.count ≡ c.loop-count.from + (half + 1)
    + (c.loop-count.count - (half + 1)) = omega arith in
    record {
      within = omega arith;
      between = subst (λ (k : ℕ). IsBetween ns x k (c.loop-count.from + (half + 1) + (c.loop-count.count - (half + 1))))
          begin
          (subst (λ (k : ℕ). IsBetween ns x (middle + 1) k) end met);
    }

pub loop-count-preserved : goal.loop-count-preserved
loop-count-preserved g c =
    let ns : List Network = map g.H.HoldsNetwork.held c.args.list.now in
    let within = c.loop-count.invariant.within in
    let middle : ℕ = c.loop-count.from + c.loop-count.count / 2 in
    let b : Network = g.H.HoldsNetwork.held c.index-list-from.result in
    let is = read_pair g.H.HoldsNetwork.held c.args.list.now middle c.index-list-from.result (omega arith)
    c.index-list-from.is in
    record {
      within = omega arith;
      between = between_before ns (g.H.Numbered.value c.args.number) c.loop-count.from
          (c.loop-count.from + c.loop-count.count) middle b c.loop-count.invariant.between is
          (not_below b.address (g.H.Numbered.value c.args.number)
          (iff_false c.begins_up_to.ensures c.if-begins_up_to.false));
    }

pub returns : goal.returns
returns g c =
    let size = length-map c.args.list.now g.H.HoldsNetwork.held in
    let within = c.loop-count.invariant.within in
    between_met (map g.H.HoldsNetwork.held c.args.list.now) (g.H.Numbered.value c.args.number) c.loop-count.from
    (c.loop-count.from + c.loop-count.count) c.loop-count.invariant.between
    (omega arith) (omega arith) (omega arith)
