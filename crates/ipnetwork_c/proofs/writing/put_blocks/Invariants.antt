use Rattle.ipnetwork_c.proofs.Known.{map, HasBlocks}
use Rattle.ipnetwork_c.proofs.writing.put_blocks.Given as goal

abbrev pub invariant-loop-block : goal.invariant-loop-block
invariant-loop-block g l = HasBlocks g.H.HoldsNetwork.held (map g.N.CidrNetwork.pair l.yielded) l.initial.list
    l.list l.count
