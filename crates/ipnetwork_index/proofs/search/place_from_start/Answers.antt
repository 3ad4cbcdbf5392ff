use Rattle.ipnetwork_index.proofs.Known.{arith, found, goes_past}
use Rattle.ipnetwork_index.proofs.search.place_from_start.Goals as goal

pub place_in_part-requires-clause-come : goal.place_in_part-requires-clause-come
place_in_part-requires-clause-come g c =
    goes_past _ _ _ _ c.requires.come c.below_of_four-below.ensures (omega arith)

pub returns : goal.returns
returns g c =
    let few = c.below_of_four-below.ensures.few in
    found _ _ _ _ c.requires.come c.below_of_four-below.ensures (omega arith)
