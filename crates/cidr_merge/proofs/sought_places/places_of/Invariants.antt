use Rattle.cidr_merge.proofs.Known.{ArePlacesUpTo}
use Rattle.cidr_merge.proofs.sought_places.places_of.Given as goal

abbrev pub invariant-loop-place : goal.invariant-loop-place
invariant-loop-place l = ArePlacesUpTo l.of_v6 l.sought l.sorted.items l.place
