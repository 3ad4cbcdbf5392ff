use Rattle.reducing.proofs.Known.{◌≡◌, ◌+◌, ap, ◌∙◌, map, take, take_all, blocks, blocks_taken}
use Rattle.reducing.proofs.tree_list.TreeList.into_blocks.Goals as goal

pub loop-node-init : goal.loop-node-init
loop-node-init g c = ap (map g.N.CidrNetwork.pair) c.clear.ensures.items

pub loop-node-preserved : goal.loop-node-preserved
loop-node-preserved g c =
    let before : map g.N.CidrNetwork.pair c.loop-node.list.items ≡ blocks g.N.CidrNetwork.pair
    (take c.loop-node.node-index c.deref-node-items.result.now) = c.loop-node.invariant in
    let one = blocks_taken g.N.CidrNetwork.pair c.deref-node-items.result.now c.loop-node.node-index c.node-item.result
    c.loop-node-test.true c.node-item.is in
    let pushed = c.in_ok-push_block.ensures in
    let all : map g.N.CidrNetwork.pair c.push_block.new.list.items ≡ blocks g.N.CidrNetwork.pair
    (take (c.loop-node.node-index + 1) c.deref-node-items.result.now) = cc (before, one, pushed) in
    all

pub returns : goal.returns
returns g c =
    let all : map g.N.CidrNetwork.pair c.loop-node.list.items ≡ blocks g.N.CidrNetwork.pair
    (take c.loop-node.node-index c.deref-node-items.result.now) = c.loop-node.invariant in
    all ∙ ap (blocks g.N.CidrNetwork.pair) (take_all c.loop-node.node-index c.deref-node-items.result.now
    c.loop-node-test.false ∙ c.deref-node-items.ensures.value) ∙ c.self.view_is
