use Rattle.ipnetwork_index.proofs.Known.{ℕ, List, map, AreStarts}
use Rattle.ipnetwork_index.proofs.Halving.{whole}
use Rattle.ipnetwork_index.proofs.partition.Partition.of_wholes.Goals as goal

pub invariant_of-result : goal.invariant_of-result
invariant_of-result g c =
    let padded : List ℕ = map g.N.Number.Key.value c.args.lasts.items in
    let starts : AreStarts padded c.in_ok-starts.starts.items _ c.span_of-base.result.1
    = rw (← c.as_slice-2.ensures.value) c.in_ok-starts.ensures in
    whole g.N.CidrNetwork.WIDTH g.N.IndexedNetwork.high g.N.Number.Key.BITS g.N.High.Key.BITS
    padded c.in_ok-starts.starts.items _ _ c.span_of-base.result.1 _ _ c.requires.padded starts
    c.span_of-base.ensures
