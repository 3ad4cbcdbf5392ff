use Rattle.cidr_merge.proofs.Known.{take, AreNetworks}
use Rattle.cidr_merge.proofs.query.networks_of.Given as goal

abbrev pub invariant-loop-place : goal.invariant-loop-place
invariant-loop-place l = AreNetworks (take l.place l.words) l.networks.items
