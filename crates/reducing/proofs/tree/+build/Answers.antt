use Rattle.reducing.proofs.Known.{sym, ◌∙◌, eqb-true, split, empty_tree, closed_again, opened_blocks}
use Rattle.reducing.proofs.tree.+build.Goals as goal

pub returns-then-is_empty-clause-tree : goal.returns-then-is_empty-clause-tree
returns-then-is_empty-clause-tree g t c =
    empty_tree g.N.CidrNetwork.WIDTH g.N.CidrNetwork.pair c.args.tree.now
    (eqb-true _ 0 (sym c.is_empty.ensures ∙ c.if-is_empty.true))

pub returns : goal.returns
returns g t c =
    let s = split c.args.tree.now c.split_at_mut-left.result.0.now c.split_at_mut-left.result.1.now
    c.split_at_mut-place.result.0.now c.split_at_mut-place.result.1.now c.index-place-0.result
    c.split_at_mut-left.ensures.value c.split_at_mut-place.ensures.value c.split_at_mut-place.ensures.front_len
    c.split_at_mut-left.ensures.front_len c.index-place-0.is in
    let again = closed_again g.N.CidrNetwork.WIDTH g.N.CidrNetwork.pair _ _ _ _ _ _ c.build.new.tree c.build-2.new.tree
    c.root.result _ s
    c.build.auto.tree c.build-2.auto.tree c.root.ensures.block c.build.ensures.tree c.build-2.ensures.tree
    c.root.ensures.span in
    let opened = opened_blocks g.N.CidrNetwork.pair _ _ _ _ _ _ s in
    record { tree = again.0; blocks = cc (again.1, opened, c.build.ensures.blocks, c.build-2.ensures.blocks) }
