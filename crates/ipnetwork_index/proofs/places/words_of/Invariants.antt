use Rattle.ipnetwork_index.proofs.Known.{◌≡◌, map, take}
use Rattle.ipnetwork_index.proofs.places.words_of.Given as goal

abbrev pub invariant-loop-address : goal.invariant-loop-address
invariant-loop-address g l =
    l.words.items ≡ map g.N.CidrNetwork.number (take l.address-index l.addresses)
