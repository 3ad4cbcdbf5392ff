use Rattle.ipnetwork_index.proofs.Known.{◌≡◌, map, take, by_pair}
use Rattle.ipnetwork_index.proofs.listing.with_value.Given as goal

abbrev pub invariant-loop-block : goal.invariant-loop-block
invariant-loop-block g l = by_pair g.N.CidrNetwork.pair l.entries.items
    ≡ map (λ n. (g.N.CidrNetwork.pair n, l.value)) (take l.block-index l.blocks)
