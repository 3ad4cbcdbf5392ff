use Rattle.ipnetwork_c.proofs.ranges.place_by_guess.Goals as goal

pub returns-in-Some : goal.returns-in-Some
returns-in-Some g c = (c.in-Some.count, c.in-Some.ensures, c.found_before.ensures)
