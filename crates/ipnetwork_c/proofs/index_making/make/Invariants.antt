use Rattle.ipnetwork_c.proofs.Known.{◌≡◌, length, map, HasStarts}
use Rattle.ipnetwork_c.proofs.index_making.make.Given as goal

abbrev pub invariant-loop-part : goal.invariant-loop-part
invariant-loop-part g l = record {
  size : length l.index ≡ length l.initial.index;
  starts : HasStarts (map g.H.HoldsNetwork.held l.list) l.index l.shift l.part l.at;
}
