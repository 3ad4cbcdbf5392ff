use Rattle.ipnetwork_blocks.proofs.Known.{◌≤◌, AllWithin, IsPermutation, IsV4, IsV6}
use Rattle.ipnetwork_blocks.proofs.aggregate_ip.put_v4_first.Given as goal

abbrev pub invariant-loop-next : goal.invariant-loop-next
invariant-loop-next l = (l.v4_count ≤ l.next) × IsPermutation l.initial.networks l.networks
    × AllWithin IsV4 l.networks 0 l.v4_count × AllWithin IsV6 l.networks l.v4_count l.next
