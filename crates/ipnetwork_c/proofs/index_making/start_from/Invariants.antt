use Rattle.ipnetwork_c.proofs.Known.{◌+◌, ◌-◌, ◌*◌, ◌^◌, length, map, address_at, LastBefore}
use Rattle.ipnetwork_c.proofs.index_making.start_from.Given as goal

abbrev pub invariant-loop-at : goal.invariant-loop-at
invariant-loop-at g l =
    LastBefore (map g.H.HoldsNetwork.held l.list)
    (address_at (map g.H.HoldsNetwork.held l.list) 0 + l.part * 2 ^ l.shift) l.at

abbrev pub decreases-loop-at : goal.decreases-loop-at
decreases-loop-at g l = length l.list - l.at
