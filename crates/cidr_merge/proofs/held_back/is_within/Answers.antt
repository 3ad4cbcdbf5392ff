use Rattle.cidr_merge.proofs.Known.{count_number}
use Rattle.cidr_merge.proofs.held_back.is_within.Goals as goal

pub returns : goal.returns
returns g c = record {
  addresses = count_number c.address_count-had.result;
  went = count_number c.count_alone-went.result;
  came = count_number c.count_alone-came.result;
  addresses_are = c.address_count-had.ensures c.requires;
  went_are = c.count_alone-went.ensures;
  came_are = c.count_alone-came.ensures;
  allowed_is = c.allows_change-is_within.ensures;
}
