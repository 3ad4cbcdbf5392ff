use Rattle.ipnetwork_blocks.proofs.Known.{◌++◌, ℕ, List, sym, subst, iff_false, Network, IsLeastList, InDifference, count_inside, none_left, all_left, least_apart, least_around}
use Rattle.ipnetwork_blocks.proofs.exclusions.exclude.Goals as goal

pub returns-then-not-overlaps-clause-blocks : goal.returns-then-not-overlaps-clause-blocks
returns-then-not-overlaps-clause-blocks g c =
    let w : ℕ = g.N.CidrNetwork.WIDTH in
    let n : Network = g.N.CidrNetwork.pair c.args.network in
    let i : Network = g.N.CidrNetwork.pair c.args.inner in
    let above : List Network = c.between_or_none.result in
    subst (λ (below : List Network). IsLeastList w (InDifference w n i) (below ++ above)) (sym c.none.ensures.none)
    (least_apart w _ _ n i above c.ip.ensures.network (iff_false c.overlaps.ensures c.if-not-overlaps.true)
    c.network-first.ensures c.broadcast-last.ensures c.between_or_none.ensures)

pub returns-then-not-overlaps-clause-none : goal.returns-then-not-overlaps-clause-none
returns-then-not-overlaps-clause-none g c =
    none_left g.N.CidrNetwork.WIDTH _ _ _ (returns-then-not-overlaps-clause-blocks g c)

pub returns-then-not-overlaps-clause-all : goal.returns-then-not-overlaps-clause-all
returns-then-not-overlaps-clause-all g c =
    all_left g.N.CidrNetwork.WIDTH _ _ _ c.ip.ensures.network (returns-then-not-overlaps-clause-blocks g c)

pub returns-then-not-overlaps-clause-some : goal.returns-then-not-overlaps-clause-some
returns-then-not-overlaps-clause-some g c = count_inside g.N.CidrNetwork.WIDTH _ _ _ c.ip.ensures.network
    c.ip-2.ensures.network (returns-then-not-overlaps-clause-blocks g c)

pub returns-clause-blocks : goal.returns-clause-blocks
returns-clause-blocks g c =
    let w : ℕ = g.N.CidrNetwork.WIDTH in
    let n : Network = g.N.CidrNetwork.pair c.args.network in
    let i : Network = g.N.CidrNetwork.pair c.args.inner in
    least_around _ _ c.ip.ensures.network c.ip-2.ensures.network (c.overlaps.ensures.0 c.if-not-overlaps.false)
    c.network-first.ensures c.broadcast-last.ensures
    c.blocks_before.ensures c.blocks_behind.ensures

pub returns-clause-none : goal.returns-clause-none
returns-clause-none g c = none_left g.N.CidrNetwork.WIDTH _ _ _ (returns-clause-blocks g c)

pub returns-clause-all : goal.returns-clause-all
returns-clause-all g c = all_left g.N.CidrNetwork.WIDTH _ _ _ c.ip.ensures.network (returns-clause-blocks g c)

pub returns-clause-some : goal.returns-clause-some
returns-clause-some g c = count_inside g.N.CidrNetwork.WIDTH _ _ _ c.ip.ensures.network c.ip-2.ensures.network
    (returns-clause-blocks g c)
