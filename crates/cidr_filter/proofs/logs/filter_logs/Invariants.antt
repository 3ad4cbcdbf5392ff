use Rattle.cidr_filter.proofs.Known.{◌≡◌, ◌≤◌, length, drop, string_bytes, LogsSoFar, is_silent, FiltersLog, is_enough, nothing}
use Rattle.std.proofs.Common.{map}
use Rattle.cidr_filter.proofs.logs.filter_logs.Given as goal

abbrev pub invariant-loop-file : goal.invariant-loop-file
invariant-loop-file g l = record {
  room : 1048578 ≤ length l.buffer;
  filter : l.filter ≡ l.initial.filter;
  logs : LogsSoFar (is_enough (is_silent l.initial.filter.shows))
      (FiltersLog l.initial.filter (g.L.OpenLists.known l.lists)) nothing
      (map string_bytes l.files) (map string_bytes (drop l.file-index l.files)) l.initial.output l.output l.total;
}
