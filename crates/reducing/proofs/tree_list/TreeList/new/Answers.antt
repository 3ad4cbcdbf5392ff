use Rattle.reducing.proofs.Known.{◌≡◌, ◌++◌, ◌∷◌, [], List, length, map, sym, ap, subst, ◌∙◌, length-map, one_more_taken, all_taken, blocks, IsTree, blocks-append, whole_again}
use Rattle.reducing.proofs.tree_list.TreeList.new.Goals as goal

pub loop-block-preserved : goal.loop-block-preserved
loop-block-preserved g c =
    ap (blocks g.N.CidrNetwork.pair) c.in_ok-push.ensures.items
    ∙ blocks-append g.N.CidrNetwork.pair c.loop-block.tree.items _
    ∙ ap (λ u. u ++ g.N.CidrNetwork.pair c.block-item.result ∷ []) c.loop-block.invariant
    ∙ sym (one_more_taken g.N.CidrNetwork.pair c.args.list.now c.loop-block.block-index c.block-item.result
    c.loop-block-test.true c.block-item.is)

pub invariant_of-result : goal.invariant_of-result
invariant_of-result g c =
    let again = whole_again c.loop-block.tree.len c.build.new.tree c.loop-block.tree.items c.loop-block.tree.ok.0
    (c.build.auto.tree ∙ ap length c.as_mut_slice.ensures.value) in
    let all : blocks g.N.CidrNetwork.pair c.build.new.tree ≡ map g.N.CidrNetwork.pair c.args.list.now =
    c.build.ensures.blocks ∙ ap (blocks g.N.CidrNetwork.pair) c.as_mut_slice.ensures.value ∙ c.loop-block.invariant
    ∙ all_taken g.N.CidrNetwork.pair c.args.list.now c.loop-block.block-index c.loop-block.auto.block-index-end
    c.loop-block-test.false in (
      subst (λ (t : List _). IsTree g.N.CidrNetwork.WIDTH g.N.CidrNetwork.pair t) (sym again) c.build.ensures.tree,
      sym (ap (λ t. length (blocks g.N.CidrNetwork.pair t)) again ∙ ap length all
          ∙ length-map c.args.list.now g.N.CidrNetwork.pair),
    )
