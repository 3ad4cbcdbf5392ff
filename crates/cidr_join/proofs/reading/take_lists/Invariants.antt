use Rattle.cidr_join.proofs.Known.{◌≤◌, ◌-◌, length, drop, map, Option, lines_of, list_text, no_networks, Takes, Networks}
use Rattle.cidr_join.proofs.reading.take_lists.Given as goal

abbrev pub invariant-lists : goal.invariant-lists
invariant-lists g l = record {
  within : l.at ≤ length l.lists;
  goes_on : (end : Option Networks)
      → Takes l.rules l.listing.networks (lines_of (map list_text (drop l.at l.lists))) end
      → Takes l.rules no_networks (lines_of (map list_text l.lists)) end;
}

abbrev pub decreases-lists : goal.decreases-lists
decreases-lists g l = length l.lists - l.at
