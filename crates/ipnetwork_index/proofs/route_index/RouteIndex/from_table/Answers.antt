use Rattle.ipnetwork_index.proofs.route_index.RouteIndex.from_table.Goals as goal

pub of-requires : goal.of-requires
of-requires g c = rw c.as_slice.ensures.value (c.args.table, c.in_ok-entries.ensures)

pub invariant_of-result : goal.invariant_of-result
invariant_of-result g c =
    (rw c.as_slice.ensures.value at c.in_ok-ranges.ensures) c.args.table c.in_ok-entries.ensures
