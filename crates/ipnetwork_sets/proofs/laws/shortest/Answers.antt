use Rattle.ipnetwork_sets.proofs.Known.{common_is_shortest, difference_is_shortest, free_is_shortest, union_is_shortest}
use Rattle.ipnetwork_sets.proofs.laws.shortest.Goals as goal

pub returns : goal.returns
returns c = record {
  common = common_is_shortest;
  difference = difference_is_shortest;
  free = free_is_shortest;
  union = union_is_shortest;
}
