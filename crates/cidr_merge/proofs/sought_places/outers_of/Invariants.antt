use Rattle.cidr_merge.proofs.Known.{◌≡◌, length, AreOuters}
use Rattle.cidr_merge.proofs.sought_places.outers_of.Given as goal

abbrev pub invariant-loop-at : goal.invariant-loop-at
invariant-loop-at l = record { many : length l.outers.items ≡ l.at; outers : AreOuters l.places l.outers.items }
