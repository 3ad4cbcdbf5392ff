use Rattle.ipnetwork_index.proofs.Known.{is_within, lies}
use Rattle.ipnetwork_index.proofs.partition.Partition.place_of.Goals as goal

pub place_of-requires-clause-within : goal.place_of-requires-clause-within
place_of-requires-clause-within g c =
    rw c.as_slice-lasts.ensures.value
    (is_within g.N.CidrNetwork.WIDTH _ _ c.self.invariant.is_padded c.requires)

pub place_of-requires-clause-searched : goal.place_of-requires-clause-searched
place_of-requires-clause-searched g c =
    rw (c.as_slice-lasts.ensures.value, c.as_slice-starts.ensures.value)
    (c.self.invariant.searchable c.if-by_halves.false)

pub place_of-requires-clause-narrow : goal.place_of-requires-clause-narrow
place_of-requires-clause-narrow g c = c.self.invariant.narrow c.if-by_halves.false

pub place_by_halves-requires-clause-padded : goal.place_by_halves-requires-clause-padded
place_by_halves-requires-clause-padded g c =
    rw c.as_slice-lasts.ensures.value c.self.invariant.is_padded

pub place_by_halves-requires-clause-halved : goal.place_by_halves-requires-clause-halved
place_by_halves-requires-clause-halved g c =
    rw
    (c.as_slice-lasts.ensures.value, c.as_slice-highs.ensures.value, c.as_slice-starts.ensures.value)
    (c.self.invariant.is_halved c.if-by_halves.true)

pub returns-then-by_halves : goal.returns-then-by_halves
returns-then-by_halves g c =
    rw (← c.self.view_is)
    (rw c.as_slice-lasts.ensures.value at (lies _ _ _ c.place_by_halves.ensures))

pub returns : goal.returns
returns g c =
    rw (← c.self.view_is) (rw c.as_slice-lasts.ensures.value at (lies _ _ _ c.place_of.ensures))
