use Rattle.cidr_merge.proofs.Known.{◌≡◌, ◌++◌, drop, map, with_networks, sought_as}
use Rattle.cidr_merge.proofs.sought.sought_in_words.Given as goal

abbrev pub invariant-loop-place : goal.invariant-loop-place
invariant-loop-place l =
    map sought_as l.sought.items ++ with_networks (drop l.place l.words) (drop l.place l.networks)
    ≡ with_networks l.words l.networks
