use Rattle.cidr_join.proofs.Known.{◌≤◌, ◌-◌, length, drop, map, list_text, ReadSoFar}
use Rattle.cidr_join.proofs.reading.read_lists.Given as goal

abbrev pub invariant-items : goal.invariant-items
invariant-items g l = record {
  within : l.at ≤ length l.items;
  so_far : ReadSoFar (g.L.OpenLists.known l.lists) l.items (drop l.at l.items) (map list_text l.read.items);
}

abbrev pub decreases-items : goal.decreases-items
decreases-items g l = length l.items - l.at
