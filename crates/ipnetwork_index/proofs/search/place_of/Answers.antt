use Rattle.ipnetwork_index.proofs.Known.{begins}
use Rattle.ipnetwork_index.proofs.search.place_of.Goals as goal

pub place_from_start-requires-clause-come : goal.place_from_start-requires-clause-come
place_from_start-requires-clause-come g c =
    begins _ _ _ _ _ _ c.requires.searched c.requires.within c.part_of-part.ensures
