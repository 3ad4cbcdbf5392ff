use Rattle.ipnetwork_index.proofs.route_index.RouteIndex.lookup.Goals as goal

pub returns-clause-answer : goal.returns-clause-answer
returns-clause-answer g c = rw (← c.self.view_is) (c.lookup.ensures _ c.self.invariant)

pub returns-clause-blocks : goal.returns-clause-blocks
returns-clause-blocks g c = rw (← c.self.view_is) c.self.invariant.answered.blocks
