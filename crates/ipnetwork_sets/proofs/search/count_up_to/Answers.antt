use Rattle.ipnetwork_sets.proofs.Known.{of_calls, rules, nat_le, IsPartitionedBy-leb, IsPartitionPoint-from_clause, not_falling, splits}
use Rattle.ipnetwork_sets.proofs.search.count_up_to.Goals as goal

pub returns : goal.returns
returns g c =
    let pair = g.N.CidrNetwork.pair in
    let x = g.N.CidrNetwork.number c.args.addr in
    let blocks = c.args.blocks.now in
    splits pair blocks x c.partition_point.result c.partition_point.ensures.bound
    (IsPartitionPoint-from_clause (λ b. nat_le (pair b).address x) blocks c.partition_point.result
    c.partition_point.ensures.partitioned
    (IsPartitionedBy-leb (λ b. (pair b).address) blocks x (not_falling pair blocks c.requires))
    (λ a r f k. search (rules, of_calls)))
