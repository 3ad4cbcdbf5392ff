use Rattle.ipnetwork_index.proofs.Known.{found, goes_past}
use Rattle.ipnetwork_index.proofs.search.place_from.Goals as goal

pub returns-then-below-lt4 : goal.returns-then-below-lt4
returns-then-below-lt4 g c =
    found _ _ _ _ c.requires c.below_of_four-below.ensures c.if-below-lt4.true

pub place_beyond-requires : goal.place_beyond-requires
place_beyond-requires g c =
    goes_past _ _ _ _ c.requires c.below_of_four-below.ensures c.if-below-lt4.false
