use Rattle.cidr_merge.proofs.Known.{length, address_line, Printed}
use Rattle.cidr_merge.proofs.addresses.print_addresses.Given as goal

abbrev pub invariant-loop-address : goal.invariant-loop-address
invariant-loop-address g l =
    Printed (address_line l.names g.A.Address.family) l.initial.addresses l.addresses l.initial.output
    l.output

abbrev pub decreases-loop-address : goal.decreases-loop-address
decreases-loop-address g l = length l.addresses
