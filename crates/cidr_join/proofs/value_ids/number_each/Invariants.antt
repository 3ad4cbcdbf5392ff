use Rattle.cidr_join.proofs.Known.{◌≡◌, ◌++◌, map, length, by_pair, found_by, founds_of, NumbersSoFar}
use Rattle.cidr_join.proofs.value_ids.number_each.Given as goal

abbrev pub invariant-listing : goal.invariant-listing
invariant-listing g l = record {
  behind : l.founds.items ++ map (λ e. found_by l.network g.N.OfEither.either_of e.0 e.1)
      (by_pair g.N.CidrNetwork.pair l.left)
      ≡ l.initial.founds.items ++ founds_of (found_by l.network g.N.OfEither.either_of) l.table;
  so_far : NumbersSoFar (found_by l.network g.N.OfEither.either_of) l.table (by_pair g.N.CidrNetwork.pair l.left)
      l.numbers l.founds.items;
}

abbrev pub decreases-listing : goal.decreases-listing
decreases-listing g l = length l.left
