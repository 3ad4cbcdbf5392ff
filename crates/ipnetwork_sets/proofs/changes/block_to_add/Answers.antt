use Rattle.ipnetwork_sets.proofs.Known.{iff_false}
use Rattle.ipnetwork_sets.proofs.changes.block_to_add.Goals as goal

pub returns-then-covers : goal.returns-then-covers
returns-then-covers g c = c.covers.ensures.0 c.if-covers.true

pub join_around-requires : goal.join_around-requires
join_around-requires g c = record {
  set = c.requires;
  new = iff_false c.covers.ensures c.if-covers.false;
  place = c.place_of-from.ensures;
}

pub returns : goal.returns
returns g c = (
  iff_false c.covers.ensures c.if-covers.false,
  c.join_around.ensures.ordered,
  c.join_around.ensures.within,
  c.join_around.ensures.joined,
)
