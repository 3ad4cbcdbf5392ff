use Rattle.cidr_filter.proofs.Known.{◌≡◌, ◌≤◌, ◌-◌, false, length, drop, ReadLists, Refused, ReadFault, ReadsItems, StopsAtItems}
use Rattle.cidr_filter.proofs.reading.read_lists.Given as goal

-- what is read of the remaining items is read of all items, and if the reading stops at one of them, it stops
abbrev pub invariant-items : goal.invariant-items
invariant-items g l =
    let known = g.L.OpenLists.known l.lists in
    record {
      within : l.at ≤ length l.items;
      memory : l.reader.is_out_of_memory ≡ false;
      reads : (after : ReadLists) → ReadsItems known l.at (drop l.at l.items) l.reader after
          → ReadsItems known 0 l.items l.initial.reader after;
      stops : (fault : ReadFault) (refused : Refused) → StopsAtItems known l.at (drop l.at l.items) l.reader fault
          refused → StopsAtItems known 0 l.items l.initial.reader fault refused;
    }

abbrev pub decreases-items : goal.decreases-items
decreases-items g l = length l.items - l.at
