use Rattle.cidr_merge.proofs.Known.{take, overlaps, Swept, PairsTold}
use Rattle.cidr_merge.proofs.overlapping.tell_pairs.Given as goal

abbrev pub invariant-loop-place : goal.invariant-loop-place
invariant-loop-place g l = record {
  swept : Swept overlaps l.initial.entries l.entries l.kept l.place;
  told : PairsTold l.names (take l.place l.initial.entries) l.initial.output l.output l.found;
}
