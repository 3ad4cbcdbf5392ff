use Rattle.ipnetwork_index.proofs.Known.{ℕ, List, map, AreStarts, halved}
use Rattle.ipnetwork_index.proofs.partition.Partition.of_halves.Goals as goal

pub invariant_of-result : goal.invariant_of-result
invariant_of-result g c =
    let padded : List ℕ = map g.N.Number.Key.value c.args.lasts.items in
    let highs : List ℕ = map g.N.High.Key.value c.args.highs.items in
    let starts : AreStarts highs c.in_ok-starts.starts.items _ c.span_of-high_base.result.1
    = rw (← c.as_slice-2.ensures.value) c.in_ok-starts.ensures in
    halved g.N.IndexedNetwork.high g.met.N.IndexedNetwork.high_ascends g.N.CidrNetwork.WIDTH
    g.N.Number.Key.BITS g.N.High.Key.BITS padded c.in_ok-starts.starts.items highs _
    c.span_of-high_base.result.1 _ c.all_end-highs_tell.result c.requires.padded c.requires.halves
    starts c.span_of-high_base.ensures
    (rw (← c.as_slice-3.ensures.value) c.all_end-highs_tell.ensures)
