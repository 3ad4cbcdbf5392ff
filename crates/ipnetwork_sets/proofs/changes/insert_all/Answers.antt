use Rattle.ipnetwork_sets.proofs.Known.{set_of_aggregate}
use Rattle.ipnetwork_sets.proofs.changes.insert_all.Goals as goal

pub returns-clause-blocks : goal.returns-clause-blocks
returns-clause-blocks g c =
    set_of_aggregate g.N.CidrNetwork.WIDTH _ _ c.same_union.ensures c.aggregate_vec.ensures.aggregate
