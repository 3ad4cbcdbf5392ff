use Rattle.cidr_join.proofs.Known.{◌≤◌, length, map, drop, string_bytes, CountsNames}
use Rattle.cidr_join.proofs.tally_logs.tally_each.Given as goal

abbrev pub invariant-loop-file : goal.invariant-loop-file
invariant-loop-file g l = record {
  room : 1048578 ≤ length l.buffer;
  names : CountsNames l.numbered.founds.items l.join (g.L.OpenLists.known l.lists) (map string_bytes l.files)
      (map string_bytes (drop l.file-index l.files)) l.missed l.initial.counts l.counts;
}
