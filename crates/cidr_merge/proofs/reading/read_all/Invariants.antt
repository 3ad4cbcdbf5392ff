use Rattle.cidr_merge.proofs.Known.{◌≡◌, false, take, source, ReadsLists}
use Rattle.cidr_merge.proofs.reading.read_all.Given as goal

abbrev pub invariant-loop-place : goal.invariant-loop-place
invariant-loop-place g l = record {
  read : ReadsLists (source (g.L.OpenLists.known l.context.lists.now) l.context.sets.now.fields l.shape) l.first
      (take l.place l.names) l.initial.reader l.reader;
  memory : l.reader.is_out_of_memory ≡ false;
}
