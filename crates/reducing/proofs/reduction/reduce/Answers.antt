use Rattle.reducing.proofs.Known.{ap, ◌∙◌, arith, map, joins_of, adds_up, sum_fits, row_of_set, starts, goes_on, has_pair}
use Rattle.reducing.proofs.reduction.reduce.Goals as goal

pub loop-list-init : goal.loop-list-init
loop-list-init g c =
    starts g.N.CidrNetwork.WIDTH c.args.most c.args.set _ (c.in_ok-list.ensures
    ∙ ap (map g.N.CidrNetwork.pair) c.as_slice.ensures.value ∙ c.into_blocks-blocks.ensures.blocks)

pub join_least-requires-clause-pair : goal.join_least-requires-clause-pair
join_least-requires-clause-pair g c =
    has_pair g.N.CidrNetwork.WIDTH c.loop-list.list c.least-least.result g.met.N.AddressSpace.few_bits
    (omega (arith, c.if-len-gt1.true, c.len-in-loop-list.ensures)) c.least-least.ensures

pub overflow_add-others : goal.overflow_add-others
overflow_add-others g c =
    let fits = sum_fits g.N.CidrNetwork.WIDTH c.args.set c.loop-list.list c.join_least.new.self c.loop-list.others
    c.least-least.result g.met.N.AddressSpace.few_bits
    (adds_up g.N.CidrNetwork.WIDTH c.args.most c.args.set
    (row_of_set g.N.CidrNetwork.WIDTH c.args.set c.one_block.ensures.apart c.into_blocks-blocks.ensures.set)
    c.loop-list.list c.loop-list.others c.loop-list.invariant)
    (joins_of g.N.CidrNetwork.WIDTH c.loop-list.list c.join_least.new.self c.least-least.result
    c.least-least.ensures c.join_least.ensures) in
    omega (arith, fits)

pub loop-list-preserved : goal.loop-list-preserved
loop-list-preserved g c =
    goes_on g.N.CidrNetwork.WIDTH c.args.most c.args.set c.loop-list.list c.join_least.new.self c.loop-list.others
    c.least-least.result c.loop-list.invariant (omega (arith, c.loop-list-test.true, c.len.ensures))
    c.least-least.ensures c.join_least.ensures
