-- Which entries are taken.
use Rattle.lists.specs.Entries.{IsRange}
use Rattle.lists.specs.declared.entry.Entry.{Entry}
use Rattle.lists.specs.declared.entry.Entry.TheVariants as entries

-- the entry is a network, or a range whose ends are of one family and whose first address is not after its last
abbrev pub IsGoodEntry : Entry → Type 0
IsGoodEntry (entries.Network n) = Unit {0}
IsGoodEntry (entries.Range first last) = IsRange first last
