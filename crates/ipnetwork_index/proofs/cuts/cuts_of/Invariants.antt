use Rattle.ipnetwork_index.proofs.Known.{◌≡◌, ◌++◌, length, map, flat_map, cuts_of}
use Rattle.ipnetwork_index.proofs.cuts.cuts_of.Given as goal

abbrev pub invariant-cutting : goal.invariant-cutting
invariant-cutting g l = flat_map cuts_of l.initial.ranges ≡ map g.N.CidrNetwork.number l.cuts.items
    ++ flat_map cuts_of l.ranges

abbrev pub decreases-cutting : goal.decreases-cutting
decreases-cutting g l = length l.ranges
