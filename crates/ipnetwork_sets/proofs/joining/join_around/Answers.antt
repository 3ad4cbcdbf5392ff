use Rattle.ipnetwork_sets.proofs.Known.{ℕ, List, map, sym, subst, arith, length-map, Network, IsJoinedTo, joining_begins, joining_before, joining_behind, joining_ends}
use Rattle.ipnetwork_sets.proofs.joining.join_around.Goals as goal

pub loop-wider-init : goal.loop-wider-init
loop-wider-init g c =
    let w : ℕ = g.N.CidrNetwork.WIDTH in
    let bs : List Network = map g.N.CidrNetwork.pair c.args.blocks.now in
    let n : Network = g.N.CidrNetwork.pair c.args.network in
    subst (λ (b : Network). IsJoinedTo w bs n c.args.from c.args.to b) (sym c.block-joined.ensures.made)
    (joining_begins w bs n c.one_block.ensures.apart c.requires.set c.ip.ensures.network c.args.from c.args.to
    c.requires.new c.requires.place)

pub join_before-requires : goal.join_before-requires
join_before-requires g c =
    let size = length-map c.args.blocks.now g.N.CidrNetwork.pair in
    let ordered = c.loop-wider.invariant.ordered in
    let within = c.loop-wider.invariant.within in
    omega (arith, size, ordered, within)

pub loop-wider-preserved-in-Some : goal.loop-wider-preserved-in-Some
loop-wider-preserved-in-Some g c =
    let w : ℕ = g.N.CidrNetwork.WIDTH in
    let bs : List Network = map g.N.CidrNetwork.pair c.args.blocks.now in
    joining_before w bs (g.N.CidrNetwork.pair c.args.network) c.one_block.ensures.apart c.requires.set
    c.ip.ensures.network c.loop-wider.first c.loop-wider.behind
    (g.N.CidrNetwork.pair c.loop-wider.joined) (g.N.CidrNetwork.pair c.in-Some.wider) c.loop-wider.invariant
    c.in-Some.ensures

pub loop-wider-preserved : goal.loop-wider-preserved
loop-wider-preserved g c =
    let w : ℕ = g.N.CidrNetwork.WIDTH in
    let bs : List Network = map g.N.CidrNetwork.pair c.args.blocks.now in
    joining_behind w bs (g.N.CidrNetwork.pair c.args.network) c.one_block.ensures.apart c.requires.set
    c.ip.ensures.network c.loop-wider.first c.loop-wider.behind
    (g.N.CidrNetwork.pair c.loop-wider.joined) (g.N.CidrNetwork.pair c.in-Some-join_behind.wider) c.loop-wider.invariant
    c.in-Some-join_behind.ensures

pub returns-in_default-join_behind : goal.returns-in_default-join_behind
returns-in_default-join_behind g c =
    let w : ℕ = g.N.CidrNetwork.WIDTH in
    let bs : List Network = map g.N.CidrNetwork.pair c.args.blocks.now in
    let size = length-map c.args.blocks.now g.N.CidrNetwork.pair in
    let within = c.loop-wider.invariant.within in
    record {
      ordered = c.loop-wider.invariant.ordered;
      within = omega (arith, size, within);
      joined =
          joining_ends w bs (g.N.CidrNetwork.pair c.args.network) c.one_block.ensures.apart c.requires.set
          c.ip.ensures.network c.loop-wider.first c.loop-wider.behind
          (g.N.CidrNetwork.pair c.loop-wider.joined) c.loop-wider.invariant c.in_default.ensures
          c.in_default-join_behind.ensures;
    }
