use Rattle.ipnetwork_index.proofs.route_index.RouteIndex.range_count.Goals as goal

pub returns : goal.returns
returns g c = rw (← c.self.view_is) (c.len.ensures _ c.self.invariant)
