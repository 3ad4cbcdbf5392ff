use Rattle.reducing.proofs.Known.{◌≡◌, take, map, blocks}
use Rattle.reducing.proofs.tree_list.TreeList.into_blocks.Given as goal

abbrev pub invariant-loop-node : goal.invariant-loop-node
invariant-loop-node g l = map g.N.CidrNetwork.pair l.list.items ≡ blocks g.N.CidrNetwork.pair
    (take l.node-index l.node-items)
