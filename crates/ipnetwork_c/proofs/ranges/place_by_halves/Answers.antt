use Rattle.ipnetwork_c.proofs.ranges.place_by_halves.Goals as goal

pub returns : goal.returns
returns g c = (c.upper_bound_by_halves-count.result, c.upper_bound_by_halves-count.ensures, c.found_before.ensures)
