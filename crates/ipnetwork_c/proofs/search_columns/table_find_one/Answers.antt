use Rattle.ipnetwork_c.proofs.Known.{arith, fault_is_byte}
use Rattle.ipnetwork_c.proofs.search_columns.table_find_one.Goals as goal

pub overflow_cast-result : goal.overflow_cast-result
overflow_cast-result g c = let small = fault_is_byte g.N.CidrNetwork.WIDTH g.H.HoldsNetwork.held c.args.blocks.now _
    c.find.ensures in omega arith
