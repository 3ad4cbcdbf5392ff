use Rattle.ipnetwork_sets.proofs.Known.{ℕ, List, map, ap, ◌∙◌, arith, iff_false, Network, common_blocks, common_none_first, common_none_second, gives_first, gives_second, skips}
use Rattle.ipnetwork_sets.proofs.common.next_common.Goals as goal

pub returns-in_default : goal.returns-in_default
returns-in_default g c =
    let w : ℕ = g.N.CidrNetwork.WIDTH in
    let second : List Network = map g.H.HoldsNetwork.held c.loop-one.second.now in
    c.loop-one.invariant.same ∙ ap (λ t. common_blocks w t second) c.in_default.ensures ∙ common_none_first w second

pub returns-in_default-split_held : goal.returns-in_default-split_held
returns-in_default-split_held g c =
    let w : ℕ = g.N.CidrNetwork.WIDTH in
    let first : List Network = map g.H.HoldsNetwork.held c.loop-one.first.now in
    c.loop-one.invariant.same ∙ ap (common_blocks w first) c.in_default-split_held.ensures ∙ common_none_second w first

pub loop-one-preserved : goal.loop-one-preserved
loop-one-preserved g c =
    let i = c.loop-one.invariant in
    let says = rw (c.ip-begin.ensures.made, c.ip-other_begin.ensures.made) at c.is_before-before.ensures in
    let left = skips g.H.HoldsNetwork.holds g.H.HoldsNetwork.held g.N.CidrNetwork.WIDTH _ _ _ _ _ _ _ _ _
    c.one_block.ensures.apart c.in-Some.ensures.0 c.in-Some-split_held.ensures.0 i.first i.second
    (iff_false c.share_address.ensures c.if-share_address.false) says c.skip_first_if-first.ensures
    c.skip_first_if-second.ensures in
    record { first = left.0; second = left.1; same = i.same ∙ left.2 }

pub returns-then-other_length-length : goal.returns-then-other_length-length
returns-then-other_length-length g c =
    let i = c.loop-one.invariant in
    let gives = gives_first g.N.CidrNetwork.WIDTH _ _ _ _ _ _ c.one_block.ensures.apart c.in-Some.ensures.0
    c.in-Some-split_held.ensures.0 i.first.1 i.second.1 (c.share_address.ensures.0 c.if-share_address.true)
    (omega (arith, c.prefix-length.ensures.made, c.prefix-other_length.ensures.made, c.if-other_length-length.true)) in
    ((c.in-Some.ensures.1, gives.0), i.second, i.same ∙ gives.1)

pub returns-then-share_address : goal.returns-then-share_address
returns-then-share_address g c =
    let i = c.loop-one.invariant in
    let gives = gives_second g.N.CidrNetwork.WIDTH _ _ _ _ _ _ c.one_block.ensures.apart c.in-Some.ensures.0
    c.in-Some-split_held.ensures.0 i.first.1 i.second.1 (c.share_address.ensures.0 c.if-share_address.true)
    (omega (arith, c.prefix-length.ensures.made, c.prefix-other_length.ensures.made, c.if-other_length-length.false)) in
    (i.first, (c.in-Some-split_held.ensures.1, gives.0), i.same ∙ gives.1)
