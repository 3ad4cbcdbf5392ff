use Rattle.cidr_join.proofs.Known.{◌≤◌, false, length, map, drop, string_bytes, LogsSoFar, never, shown_in, GivesOne}
use Rattle.cidr_join.proofs.logs.join_logs.Given as goal

abbrev pub invariant-loop-file : goal.invariant-loop-file
invariant-loop-file g l = record {
  room : 1048578 ≤ length l.buffer;
  names : LogsSoFar never (GivesOne shown_in l.join (g.L.OpenLists.known l.lists)) false
      (map string_bytes l.files) (map string_bytes (drop l.file-index l.files)) l.initial.output l.output l.missed;
}
