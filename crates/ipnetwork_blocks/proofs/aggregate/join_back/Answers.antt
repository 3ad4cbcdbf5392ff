use Rattle.ipnetwork_blocks.proofs.Known.{sym, subst, ◌∙◌, arith, ◌-◌, ◌<◌, ℕ, List, length, map, get_or_default, length-map, Network, AreHalves, read_held, IsJoining, joining_starts, joining_more, joining_stops}
use Rattle.ipnetwork_blocks.proofs.aggregate.join_back.Goals as goal

pub loop-left-preserved : goal.loop-left-preserved
loop-left-preserved g c =
    let w : ℕ = g.N.CidrNetwork.WIDTH in
    let s = c.in-Some.ensures in
    let r : List Network = map g.H.HoldsNetwork.held c.args.front.now in
    let last : Network = g.N.CidrNetwork.pair c.held_network.result in
    let len = length-map c.args.front.now g.H.HoldsNetwork.held in
    let fits : c.loop-left.left - 1 < length c.args.front.now = let b = c.loop-left.invariant.bound in omega arith in
    let is = read_held g.H.HoldsNetwork.held c.args.front.now (c.loop-left.left - 1) c.index-front-left.result last fits
    c.index-front-left.is c.held_network.ensures in
    subst (λ (n : Network). IsJoining w r (g.N.CidrNetwork.pair c.args.block) (c.loop-left.left - 1) n) (sym s.1)
    (joining_more last c.requires.joined c.loop-left.invariant
    (omega arith) is s.0)

pub returns-in-None-clause-joined : goal.returns-in-None-clause-joined
returns-in-None-clause-joined g c =
    let w : ℕ = g.N.CidrNetwork.WIDTH in
    let r : List Network = map g.H.HoldsNetwork.held c.args.front.now in
    let joined : Network = g.N.CidrNetwork.pair c.loop-left.joined in
    let last : Network = g.N.CidrNetwork.pair c.held_network.result in
    let len = length-map c.args.front.now g.H.HoldsNetwork.held in
    let fits : c.loop-left.left - 1 < length c.args.front.now = let b = c.loop-left.invariant.bound in omega arith in
    let is = read_held g.H.HoldsNetwork.held c.args.front.now (c.loop-left.left - 1) c.index-front-left.result last fits
    c.index-front-left.is c.held_network.ensures in
    joining_stops w r (g.N.CidrNetwork.pair c.args.block) c.loop-left.left joined c.requires.joined
    c.loop-left.invariant
    (λ t some at s. c.in-None.ensures (subst (λ (n : Network). AreHalves w n joined)
    (at ∙ get_or_default r (c.loop-left.left - 1) t last (omega arith) ∙ sym is) s))

pub overflow_sub-left : goal.overflow_sub-left
overflow_sub-left g c = omega arith

pub overflow_sub-left-in-Some : goal.overflow_sub-left-in-Some
overflow_sub-left-in-Some g c = omega arith

pub bounds-front-left : goal.bounds-front-left
bounds-front-left g c =
    let len = length-map c.args.front.now g.H.HoldsNetwork.held in
    let bound = c.loop-left.invariant.bound in
    omega arith

pub returns-in-None-clause-left : goal.returns-in-None-clause-left
returns-in-None-clause-left g c =
    let len = length-map c.args.front.now g.H.HoldsNetwork.held in
    let bound = c.loop-left.invariant.bound in
    omega arith

pub returns-in-None-clause-union : goal.returns-in-None-clause-union
returns-in-None-clause-union g c = c.loop-left.invariant.union

pub returns-in-None-clause-order : goal.returns-in-None-clause-order
returns-in-None-clause-order g c = c.loop-left.invariant.order

pub returns-clause-left : goal.returns-clause-left
returns-clause-left g c =
    let len = length-map c.args.front.now g.H.HoldsNetwork.held in
    let bound = c.loop-left.invariant.bound in
    omega arith

pub returns-clause-joined : goal.returns-clause-joined
returns-clause-joined g c =
    joining_stops g.N.CidrNetwork.WIDTH (map g.H.HoldsNetwork.held c.args.front.now) (g.N.CidrNetwork.pair c.args.block)
    c.loop-left.left (g.N.CidrNetwork.pair c.loop-left.joined)
    c.requires.joined c.loop-left.invariant (λ t some at s. absurd (omega arith))

pub returns-clause-union : goal.returns-clause-union
returns-clause-union g c = c.loop-left.invariant.union

pub returns-clause-order : goal.returns-clause-order
returns-clause-order g c = c.loop-left.invariant.order

pub loop-left-init : goal.loop-left-init
loop-left-init g c =
    let w : ℕ = g.N.CidrNetwork.WIDTH in
    let r : List Network = map g.H.HoldsNetwork.held c.args.front.now in
    let b : Network = g.N.CidrNetwork.pair c.args.block in
    subst (λ (k : ℕ). IsJoining w r b k b) (length-map c.args.front.now g.H.HoldsNetwork.held)
    (joining_starts w r b c.requires.block c.requires.behind)
