use Rattle.ipnetwork_c.proofs.Known.{◌≡◌, ◌++◌, map, take, drop, number_at}
use Rattle.ipnetwork_c.proofs.range_making.put_numbers.Given as goal

abbrev pub invariant-loop-row : goal.invariant-loop-row
invariant-loop-row l = l.places ≡ map (number_at l.numbers) (take l.row l.initial.places) ++ drop l.row l.initial.places
