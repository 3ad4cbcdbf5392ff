use Rattle.reducing.proofs.Known.{◌≡◌, take, map, blocks}
use Rattle.reducing.proofs.tree_list.TreeList.new.Given as goal

abbrev pub invariant-loop-block : goal.invariant-loop-block
invariant-loop-block g l = blocks g.N.CidrNetwork.pair l.tree.items ≡ take l.block-index
    (map g.N.CidrNetwork.pair l.list)
