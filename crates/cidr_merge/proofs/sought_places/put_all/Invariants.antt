use Rattle.cidr_merge.proofs.Known.{◌≡◌, ◌+◌, ◌++◌, map, take, Place}
use Rattle.cidr_merge.proofs.sought_places.put_all.Given as goal

abbrev pub invariant-loop-at : goal.invariant-loop-at
invariant-loop-at l =
    take (l.count + l.at) l.buffer ≡ take l.count l.initial.buffer ++ map (λ (place : Place). place.2) (take l.at l.found)
