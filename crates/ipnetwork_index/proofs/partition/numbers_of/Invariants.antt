use Rattle.ipnetwork_index.proofs.Known.{◌≡◌, map, take}
use Rattle.ipnetwork_index.proofs.partition.numbers_of.Given as goal

abbrev pub invariant-loop-address : goal.invariant-loop-address
invariant-loop-address g l = map g.N.Number.Key.value l.numbers.items ≡ map
    g.N.CidrNetwork.number (take l.address-index l.addresses)
