use Rattle.cidr_merge.proofs.Known.{refl, Union, Common, left_by, alone_by}
use Rattle.cidr_merge.proofs.sweep.Sweep.of.Goals as goal

pub returns-in-Union : goal.returns-in-Union
returns-in-Union g c =
    let w = g.N.CidrNetwork.WIDTH in
    let set = c.blocks-in-Union.ensures.set in
    let sum = c.sums.ensures.set w c.args.first.now set in
    let left = left_by c.args.operation Union c.in-Union.is w c.args.first.now c.args.second.now _ _
    c.iter-whole.ensures set (λ x. ((λ i. i), (λ i. i))) c.fewer_blocks.ensures sum.0 sum.1 in
    record { left = left.0; counted = left.1 }

pub returns-in-Common : goal.returns-in-Common
returns-in-Common g c =
    let w = g.N.CidrNetwork.WIDTH in
    let least = c.intersection-common.ensures in
    let sum = c.sums.ensures.common w c.args.first.now c.args.second.now _ least in
    let left = left_by c.args.operation Common c.in-Common.is w c.args.first.now c.args.second.now _
    _ refl least
    (c.shortest.ensures.common w c.args.first.now c.args.second.now _ least).addresses
    c.fewer_blocks.ensures sum.0 sum.1 in
    record { left = left.0; counted = left.1 }

pub returns-in_default : goal.returns-in_default
returns-in_default g c =
    let w = g.N.CidrNetwork.WIDTH in
    let least = c.difference-alone.ensures in
    let sum = c.sums.ensures.difference w c.args.first.now c.args.second.now _ least in
    let left = alone_by c.args.operation c.in_default.not-Union c.in_default.not-Common w
    c.args.first.now c.args.second.now _ _ refl least
    (c.shortest.ensures.difference w c.args.first.now c.args.second.now _ least).addresses
    c.fewer_blocks.ensures sum.0 sum.1 in
    record { left = left.0; counted = left.1 }
