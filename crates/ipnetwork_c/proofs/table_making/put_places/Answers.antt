use Rattle.ipnetwork_c.proofs.Known.{ap, ◌∙◌, arith, range_with_len, are_places}
use Rattle.ipnetwork_c.proofs.table_making.put_places.Goals as goal

pub returns : goal.returns
returns c = are_places c.loop-place.places (λ k l. c.loop-place.invariant k (omega arith))
    ∙ ap (range_with_len 0) c.loop-place.auto.places
