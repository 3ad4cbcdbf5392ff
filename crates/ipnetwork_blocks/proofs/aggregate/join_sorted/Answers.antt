use Rattle.ipnetwork_blocks.proofs.Known.{◌≡◌, ◌+◌, ◌<◌, ◌++◌, ◌∷◌, [], ℕ, List, map, take, set, sym, subst, arith, All, iff_false, length-map, take-map, map-set, length-take-le, All-set, Network, high, SameUnion, AreJoined, LiesInLast, read_held, IsPassing, passing_starts, passing_skips_last, passing_after_last, passing_block, passing_places, passed_all}
use Rattle.ipnetwork_blocks.proofs.aggregate.join_sorted.Goals as goal
use Rattle.ipnetwork_blocks.proofs.aggregate.join_sorted.Goals.{then-not-lies_in_last, else-not-lies_in_last}

pub join_back-left-requires-clause-joined : goal.join_back-left-requires-clause-joined
join_back-left-requires-clause-joined g c =
    subst (λ (t : List Network). AreJoined g.N.CidrNetwork.WIDTH t)
    (take-map g.H.HoldsNetwork.held c.loop-next.kept c.loop-next.values) c.loop-next.invariant.1.joined

pub join_back-left-requires-clause-block : goal.join_back-left-requires-clause-block
join_back-left-requires-clause-block g c =
    let size_z = length-map c.args.values.now g.H.HoldsNetwork.held in
    let size_x = length-map c.loop-next.values g.H.HoldsNetwork.held in
    let size = c.loop-next.invariant.1.size in
    passing_block (g.N.CidrNetwork.pair c.held_network-block.result) c.requires.blocks c.loop-next.invariant.1
    (omega arith)
    (read_held g.H.HoldsNetwork.held c.loop-next.values c.loop-next.next c.index-values-next.result
    (g.N.CidrNetwork.pair c.held_network-block.result) (omega arith) c.index-values-next.is
    c.held_network-block.ensures)

pub join_back-left-requires-clause-behind : goal.join_back-left-requires-clause-behind
join_back-left-requires-clause-behind g c =
    let w : ℕ = g.N.CidrNetwork.WIDTH in
    let b : Network = g.N.CidrNetwork.pair c.held_network-block.result in
    let size_z = length-map c.args.values.now g.H.HoldsNetwork.held in
    let size_x = length-map c.loop-next.values g.H.HoldsNetwork.held in
    let size = c.loop-next.invariant.1.size in
    let front = take-map g.H.HoldsNetwork.held c.loop-next.kept c.loop-next.values in
    subst (λ (t : List Network). All (λ a. high w a < b.address) t) front
    (passing_after_last b c.requires.blocks c.loop-next.invariant.1 (omega arith)
    (read_held g.H.HoldsNetwork.held c.loop-next.values c.loop-next.next c.index-values-next.result b (omega arith)
    c.index-values-next.is c.held_network-block.ensures)
    (λ last. iff_false c.lies_in_last.ensures c.if-not-lies_in_last.true
    (subst (λ (t : List Network). LiesInLast w t b) front last)))

pub loop-next-preserved : goal.loop-next-preserved
loop-next-preserved g c =
    let w : ℕ = g.N.CidrNetwork.WIDTH in
    let b : Network = g.N.CidrNetwork.pair c.held_network-block.result in
    let z : List Network = map g.H.HoldsNetwork.held c.args.values.now in
    let xs : List Network = map g.H.HoldsNetwork.held c.loop-next.values in
    let size_z = length-map c.args.values.now g.H.HoldsNetwork.held in
    let size_x = length-map c.loop-next.values g.H.HoldsNetwork.held in
    let size = c.loop-next.invariant.1.size in
    let front : take c.loop-next.kept xs ≡ map g.H.HoldsNetwork.held (take c.loop-next.kept c.loop-next.values) =
    take-map g.H.HoldsNetwork.held c.loop-next.kept c.loop-next.values in
    let is = read_held g.H.HoldsNetwork.held c.loop-next.values c.loop-next.next c.index-values-next.result b
    (omega arith) c.index-values-next.is c.held_network-block.ensures in
    let branch = λ (ys : List g.row.H.Denot) (kept : ℕ) (e : c.if-not-lies_in_last.values ≡ ys)
    (f : c.if-not-lies_in_last.kept ≡ kept)
    (p : All g.H.HoldsNetwork.holds ys × IsPassing w z (map g.H.HoldsNetwork.held ys) (c.loop-next.next + 1) kept).
    subst (λ (us : List g.row.H.Denot). All g.H.HoldsNetwork.holds us
    × IsPassing w z (map g.H.HoldsNetwork.held us) (c.loop-next.next + 1) c.if-not-lies_in_last.kept) (sym e)
    (subst (λ (k : ℕ). All g.H.HoldsNetwork.holds ys
    × IsPassing w z (map g.H.HoldsNetwork.held ys) (c.loop-next.next + 1) k) (sym f) p) in
    elim c.if-not-lies_in_last.branch [
      | then-not-lies_in_last v ↦
          let left : ℕ = v.join_back-left.result.0 in
          let whole : Network = g.N.CidrNetwork.pair v.join_back-left.result.1 in
          let bound = c.loop-next.invariant.1.bound in
          let kept_is = length-take-le c.loop-next.kept c.loop-next.values (omega arith) in
          let le = v.join_back-left.ensures.left in
          let placed : IsPassing w z (map g.H.HoldsNetwork.held (set c.loop-next.values left v.holding.result))
          (c.loop-next.next + 1) (left + 1) =
          subst (λ (t : List Network). IsPassing w z t (c.loop-next.next + 1) (left + 1))
          (sym (map-set g.H.HoldsNetwork.held c.loop-next.values left v.holding.result))
          (subst (λ (n : Network). IsPassing w z (set xs left n) (c.loop-next.next + 1) (left + 1))
          (sym v.holding.ensures.1)
          (passing_places b left whole c.requires.order c.loop-next.invariant.1 (omega arith) is (omega arith)
          (subst (λ (t : List Network). AreJoined w (take left t ++ whole ∷ [])) (sym front)
          v.join_back-left.ensures.joined)
          (subst (λ (t : List Network). SameUnion w (take left t ++ whole ∷ []) (t ++ b ∷ [])) (sym front)
          v.join_back-left.ensures.union)
          v.join_back-left.ensures.order)) in
          branch _ _ v.values-is v.kept-is (
            All-set g.H.HoldsNetwork.holds c.loop-next.values left v.holding.result v.holding.ensures.0
                c.loop-next.invariant.0,
            placed,
          )
      | else-not-lies_in_last v ↦ branch _ _ v.values-is v.kept-is (
        c.loop-next.invariant.0,
        passing_skips_last b c.requires.order c.loop-next.invariant.1 (omega arith) is
            (subst (λ (t : List Network). LiesInLast w t b) (sym front)
            (c.lies_in_last.ensures.0 v.if-not-lies_in_last.false)),
      )
    ]

pub returns-clause-union : goal.returns-clause-union
returns-clause-union g c =
    let size_z = length-map c.args.values.now g.H.HoldsNetwork.held in
    passed_all g.N.CidrNetwork.WIDTH (map g.H.HoldsNetwork.held c.args.values.now) (map g.H.HoldsNetwork.held
    c.loop-next.values) c.loop-next.next c.loop-next.kept c.loop-next.invariant.1 (omega arith)

pub overflow_add-kept : goal.overflow_add-kept
overflow_add-kept g c =
    let bound = c.loop-next.invariant.1.bound in
    let kept_is = length-take-le c.loop-next.kept c.loop-next.values (omega arith) in
    omega (arith, c.join_back-left.ensures.left)

pub bounds-values-left : goal.bounds-values-left
bounds-values-left g c =
    let bound = c.loop-next.invariant.1.bound in
    let kept_is = length-take-le c.loop-next.kept c.loop-next.values (omega arith) in
    omega (arith, c.join_back-left.ensures.left)

pub bounds-values-next : goal.bounds-values-next
bounds-values-next g c = omega arith

pub slice_bounds-lies_in_last-end : goal.slice_bounds-lies_in_last-end
slice_bounds-lies_in_last-end g c = let bound = c.loop-next.invariant.1.bound in omega arith

pub slice_bounds-join_back-end : goal.slice_bounds-join_back-end
slice_bounds-join_back-end g c = let bound = c.loop-next.invariant.1.bound in omega arith

pub returns-clause-within : goal.returns-clause-within
returns-clause-within g c = let bound = c.loop-next.invariant.1.bound in omega arith

pub returns-clause-joined : goal.returns-clause-joined
returns-clause-joined g c = c.loop-next.invariant.1.joined

pub returns-clause-held : goal.returns-clause-held
returns-clause-held g c = c.loop-next.invariant.0

pub loop-next-init : goal.loop-next-init
loop-next-init g c =
    (c.requires.held, passing_starts g.N.CidrNetwork.WIDTH (map g.H.HoldsNetwork.held c.args.values.now))
