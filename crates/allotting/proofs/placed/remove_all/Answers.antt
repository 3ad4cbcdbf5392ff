use Rattle.allotting.proofs.Known.{◌≡◌, ◌∙◌, all_left, arith, length, length-map, map, none_by, none_left}
use Rattle.allotting.proofs.placed.remove_all.Goals as goal

pub returns-then-is_empty : goal.returns-then-is_empty
returns-then-is_empty g c =
    let zero : c.args.taken.len ≡ 0 =
    none_by c.args.taken.len c.is_empty.result c.is_empty.ensures c.if-is_empty.true in
    let none : length c.args.taken.items ≡ 0 = omega (arith, zero) in
    none_left g.N.CidrNetwork.WIDTH c.args.pool.now (map g.N.CidrNetwork.pair c.args.taken.items)
    (length-map c.args.taken.items g.N.CidrNetwork.pair ∙ none)

pub returns : goal.returns
returns g c =
    all_left g.N.CidrNetwork.WIDTH c.args.pool.now (map g.N.CidrNetwork.pair c.args.taken.items)
    c.from_networks-taken.result c.difference.result c.in_ok-left.left c.same_union.ensures
    c.shortest.ensures.difference c.from_networks-taken.ensures c.difference.ensures c.in_ok-left.ensures.set
