use Rattle.cidr_join.proofs.Known.{◌≤◌, ◌-◌, length, Taken}
use Rattle.cidr_join.proofs.list.take_list.Given as goal

abbrev pub invariant-lines : goal.invariant-lines
invariant-lines g l = record {
  within : l.at ≤ length l.text;
  few : l.listing.lines ≤ l.at;
  taken : Taken l.rules l.text l.at l.initial.listing.networks l.listing.networks;
}

abbrev pub decreases-lines : goal.decreases-lines
decreases-lines g l = length l.text - l.at
