use Rattle.cidr_merge.proofs.Known.{◌≡◌, ◌≤◌, length, drop, get_or, FiltersInPlace, overlaps, Placed}
use Rattle.cidr_merge.proofs.overlapping.keep_reaching.Given as goal

abbrev pub invariant-loop-index : goal.invariant-loop-index
invariant-loop-index l = record {
  behind : l.count ≤ l.index;
  long : length l.entries ≡ length l.initial.entries;
  ahead : drop l.index l.entries ≡ drop l.index l.initial.entries;
  filtered : (later : Placed) → later ≡ get_or l.initial.entries l.place later
      → FiltersInPlace (overlaps later) l.initial.entries l.entries l.count l.index;
}
