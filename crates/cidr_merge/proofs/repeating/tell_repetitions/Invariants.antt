use Rattle.cidr_merge.proofs.Known.{map, drop, listed_as, repetitions, ToldSoFar, left_of}
use Rattle.cidr_merge.proofs.repeating.tell_repetitions.Given as goal

abbrev pub invariant-loop-place : goal.invariant-loop-place
invariant-loop-place g l =
    ToldSoFar (repetitions l.names (map listed_as l.entries))
    (left_of l.names l.previous l.furthest (drop l.place l.others))
    l.initial.output l.output l.found
